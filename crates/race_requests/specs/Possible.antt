-- Where a request can go on, in the words of the run so far. (The Go Programming Language Specification, "Go statements", "Send statements", "Receive
-- operator", "Close", "Select statements"; package sync)
use Rattle.std.specs.Prelude.{◌≡◌, ℕ, ◌≤◌, if◌then◌else◌, ◌==◌, ◌||◌, ◌&&◌, not, nat_lt, nat_le, cond, Bool, true}
use Rattle.std.specs.Prelude.{false, List, length, map, slice_get, Option, Some, None, is_none}
use Rattle.std.specs.List.{list_any, list_all}
use Rattle.race_records.specs.declared.{cases.TheConstants.MAX_CASES, event.Event.Event, kind.Kind.Kind}
use Rattle.race_records.specs.Operands.{chan_is_in_range}
use Rattle.race_model.specs.{Events.gives, State.{started, is_closed, buffered, front, is_held, is_read_held, is_begun}}
use Rattle.race_model.specs.{State.{is_ended, innermost}, Legal.is_ready}
use Rattle.race_requests.specs.{declared.request.{Ask.Ask, Offer.Offer}, Offers.{case_of, kept}}

-- who sends goes on alone where the channel is closed, which is a fault, or where its buffer has room
abbrev pub sender_goes_on : (ℕ → ℕ) → List Event → Option ℕ → Bool
sender_goes_on caps past None = false
sender_goes_on caps past (Some c) = is_closed c past || (nat_lt 0 (caps c) && not (buffered c past == caps c))

-- who receives, where a value waits, or where the channel is closed and none does
abbrev pub receiver_goes_on : (ℕ → ℕ) → List Event → Option ℕ → Bool
receiver_goes_on caps past None = false
receiver_goes_on caps past (Some c) = elim (front c past) [ Some v ↦ nat_lt 0 (caps c) | None ↦ is_closed c past ]

-- an offer goes on alone as a send or a receive does
abbrev pub offer_goes_on : (ℕ → ℕ) → List Event → Option Offer → Bool
offer_goes_on caps past None = false
offer_goes_on caps past (Some (Offer.Send c v)) = sender_goes_on caps past c
offer_goes_on caps past (Some (Offer.Recv c)) = receiver_goes_on caps past c

-- where g's ask goes on alone by its branch k, while the run isn't over and g runs
abbrev pub goes_on : (ℕ → ℕ) → List Event → ℕ → Ask → ℕ → Bool
-- nobody is started twice
goes_on caps past g (Ask.Go h) k = not (h == 0) && not (started h past)
-- nobody leaves in the function of a once
goes_on caps past g Ask.Exit k = is_none (innermost g past)
goes_on caps past g (Ask.Read x) k = true
goes_on caps past g (Ask.Write x v) k = true
goes_on caps past g (Ask.Send c v) k = sender_goes_on caps past c
goes_on caps past g (Ask.Recv c) k = receiver_goes_on caps past c
-- on a closed channel and on nil this is a fault
goes_on caps past g (Ask.Close c) k = true
-- by an offer as that does alone, and by its default, where it has one, if no case is ready
goes_on caps past g (Ask.Select offers has_default) k =
    cond (has_default && (k == length offers)) (not (list_any (is_ready caps past) (map case_of offers)))
    (offer_goes_on caps past (slice_get offers k))
-- neither a writer nor a reader has the lock
goes_on caps past g (Ask.Lock l) k = not (is_held l past) && not (is_read_held l past)
goes_on caps past g (Ask.RLock l) k = not (is_held l past)
-- a try takes the lock where a lock could, and always goes on without it
goes_on caps past g (Ask.TryLock l) k = not (k == 0) || (not (is_held l past) && not (is_read_held l past))
goes_on caps past g (Ask.TryRLock l) k = not (k == 0) || not (is_held l past)
-- where nothing is locked this is a fault
goes_on caps past g (Ask.Unlock l) k = true
goes_on caps past g (Ask.RUnlock l) k = true
-- the function hasn't begun, or it ended
goes_on caps past g (Ask.Do o) k = not (is_begun o past) || is_ended o past
goes_on caps past g (Ask.EndDo o) k = gives (innermost g past) o

-- where the two meet on the channel, while the run isn't over and both run
abbrev pub meet_goes_on : (ℕ → ℕ) → List Event → ℕ → ℕ → ℕ → Bool
meet_goes_on caps past sender receiver c = not (receiver == sender) && ((caps c == 0) && not (is_closed c past))

-- of so many channels, the offer's is one, or it is nil
abbrev pub offer_is_in_range : ℕ → Offer → Bool
offer_is_in_range chans (Offer.Send c v) = chan_is_in_range chans c
offer_is_in_range chans (Offer.Recv c) = chan_is_in_range chans c

-- what a list keeps of an offer is in range exactly where the offer is
abbrev pub KeepsRange : Type 0
KeepsRange = (chans : ℕ) (offer : Offer) → chans ≤ 65_535 → offer_is_in_range chans (kept offer) ≡ offer_is_in_range chans offer

-- with so many objects of each kind, every number that the ask names is in range; a select has no more offers than it can have
abbrev pub ask_is_in_range : (Kind → ℕ) → Ask → Bool
ask_is_in_range counts (Ask.Go h) = nat_lt h (counts Kind.Goroutine)
ask_is_in_range counts Ask.Exit = true
ask_is_in_range counts (Ask.Read x) = nat_lt x (counts Kind.Var)
ask_is_in_range counts (Ask.Write x v) = nat_lt x (counts Kind.Var)
ask_is_in_range counts (Ask.Send c v) = chan_is_in_range (counts Kind.Chan) c
ask_is_in_range counts (Ask.Recv c) = chan_is_in_range (counts Kind.Chan) c
ask_is_in_range counts (Ask.Close c) = chan_is_in_range (counts Kind.Chan) c
ask_is_in_range counts (Ask.Select offers has_default) = nat_le (length offers) MAX_CASES && list_all (offer_is_in_range (counts Kind.Chan)) offers
ask_is_in_range counts (Ask.Lock l) = nat_lt l (counts Kind.Lock)
ask_is_in_range counts (Ask.Unlock l) = nat_lt l (counts Kind.Lock)
ask_is_in_range counts (Ask.RLock l) = nat_lt l (counts Kind.Lock)
ask_is_in_range counts (Ask.RUnlock l) = nat_lt l (counts Kind.Lock)
ask_is_in_range counts (Ask.TryLock l) = nat_lt l (counts Kind.Lock)
ask_is_in_range counts (Ask.TryRLock l) = nat_lt l (counts Kind.Lock)
ask_is_in_range counts (Ask.Do o) = nat_lt o (counts Kind.Once)
ask_is_in_range counts (Ask.EndDo o) = nat_lt o (counts Kind.Once)

-- over which channel which value is handed, where the one offers to send on it and the other to receive from it
abbrev pub handed : Option Offer → Option Offer → Option (ℕ × ℕ)
handed (Some (Offer.Send (Some c) v)) (Some (Offer.Recv (Some d))) = if c == d then Some (c, v) else None
handed _ _ = None
