-- The table of requests: what a goroutine that asks does in an event, and what it is told. (The Go Programming Language
-- Specification, "Go statements",
-- "Send statements", "Receive operator", "Close", "Select statements", "Run-time panics"; package sync)
use Rattle.std.specs.Prelude.{ℕ, ◌≡◌, if◌then◌else◌, ◌==◌, ◌&&◌, cond, Bool, true, false, Option, Some, None}
use Rattle.std.specs.Prelude.{option_map, List, [], ◌∷◌, length, map, slice_get}
use Rattle.race_records.specs.{Cases.same_cases, declared.event.Cause.TheVariants.{SendClosed, CloseClosed, CloseNil}}
use Rattle.race_records.specs.declared.event.{Cause.TheVariants.{UnlockFree, RUnlockFree}, Event.Event, Op.Op}
use Rattle.race_records.specs.declared.event.Op.TheVariants.{Go, Exit, Read, Write, Send, Recv, Meet, RecvClosed, Close}
use Rattle.race_records.specs.declared.event.Op.TheVariants.{Default, Lock, Unlock, RLock, RUnlock, TryLock, TryRLock}
use Rattle.race_records.specs.declared.event.Op.TheVariants.{TryFail, OnceBegin, OnceEnd, OnceDone, Fault}
use Rattle.race_requests.specs.{declared.request.{Answer.Answer, Ask.Ask, Offer.Offer, Step.Step}, Offers.case_of}

-- what a request offers to do with channels: a send or a receive is one offer, and a select has all of its own
abbrev pub offers_of : Ask → List Offer
offers_of (Ask.Send c v) = Offer.Send c v ∷ []
offers_of (Ask.Recv c) = Offer.Recv c ∷ []
offers_of (Ask.Select offers has_default) = offers
offers_of _ = []

-- what g did in the event: in a Meet the sender sent, and the receiver received
abbrev pub done_by : ℕ → Op → Op
done_by g (Meet r c v) = cond (r == g) (Recv c v) (Send c v)
done_by g op = op

-- g's place in the event: the receiver's is the second one
abbrev pub place_of : ℕ → Event → Option ℕ
place_of g e = elim e.op [ Meet r c v ↦ cond (r == g) e.place2 (Some e.place) | _ ↦ Some e.place ]

-- there is a row where the test passes, and it tells that
abbrev pub told_if : Bool → Option Answer → Option (Option Answer)
told_if test told = if test then Some told else None

-- what is told who asks to send
abbrev pub told_sender : Option ℕ → ℕ → Op → Option (Option Answer)
told_sender (Some c) v (Send d w) = told_if ((d == c) && (w == v)) (Some Answer.Unit)
told_sender (Some c) v (Fault (SendClosed d)) = told_if (d == c) None
told_sender _ _ _ = None

-- to receive
abbrev pub told_receiver : Option ℕ → Op → Option (Option Answer)
told_receiver (Some c) (Recv d v) = told_if (d == c) (Some (Answer.Value v))
told_receiver (Some c) (RecvClosed d) = told_if (d == c) (Some Answer.Closed)
told_receiver _ _ = None

-- to close
abbrev pub told_closer : Option ℕ → Op → Option (Option Answer)
told_closer (Some c) (Close d) = told_if (d == c) (Some Answer.Unit)
told_closer (Some c) (Fault (CloseClosed d)) = told_if (d == c) None
told_closer None (Fault CloseNil) = Some None
told_closer _ _ = None

-- to try to lock, by the branch k: the lock is taken by branch 0, and not by branch 1
abbrev pub told_trier : ℕ → ℕ → Op → Option (Option Answer)
told_trier l k (TryLock m) = told_if ((k == 0) && (m == l)) (Some (Answer.Tried true))
told_trier l k (TryFail m) = told_if ((k == 1) && (m == l)) (Some (Answer.Tried false))
told_trier _ _ _ = None

-- to try to lock for reading
abbrev pub told_rtrier : ℕ → ℕ → Op → Option (Option Answer)
told_rtrier l k (TryRLock m) = told_if ((k == 0) && (m == l)) (Some (Answer.Tried true))
told_rtrier l k (TryFail m) = told_if ((k == 1) && (m == l)) (Some (Answer.Tried false))
told_rtrier _ _ _ = None

-- what is told who asks, but to select or to try, and did the operation; nothing after an exit and a fault
abbrev pub told_by : Ask → Op → Option (Option Answer)
told_by (Ask.Go h) (Go g) = told_if (g == h) (Some Answer.Unit)
told_by Ask.Exit Exit = Some None
told_by (Ask.Read x) (Read y v) = told_if (y == x) (Some (Answer.Value v))
told_by (Ask.Write x v) (Write y w) = told_if ((y == x) && (w == v)) (Some Answer.Unit)
told_by (Ask.Send c v) op = told_sender c v op
told_by (Ask.Recv c) op = told_receiver c op
told_by (Ask.Close c) op = told_closer c op
told_by (Ask.Lock l) (Lock m) = told_if (m == l) (Some Answer.Unit)
told_by (Ask.Unlock l) (Unlock m) = told_if (m == l) (Some Answer.Unit)
told_by (Ask.Unlock l) (Fault (UnlockFree m)) = told_if (m == l) None
told_by (Ask.RLock l) (RLock m) = told_if (m == l) (Some Answer.Unit)
told_by (Ask.RUnlock l) (RUnlock m) = told_if (m == l) (Some Answer.Unit)
told_by (Ask.RUnlock l) (Fault (RUnlockFree m)) = told_if (m == l) None
told_by (Ask.Do o) (OnceBegin p) = told_if (p == o) (Some Answer.Run)
told_by (Ask.Do o) (OnceDone p) = told_if (p == o) (Some Answer.AlreadyDone)
told_by (Ask.EndDo o) (OnceEnd p) = told_if (p == o) (Some Answer.Unit)
told_by _ _ = None

-- what is told who asks by its offer k: which that is, with the value that was received, if any
abbrev pub chosen : ℕ → Answer → Answer
chosen k (Answer.Value v) = Answer.Chosen k (Some v)
chosen k _ = Answer.Chosen k None

-- what is told who asks that offer alone
abbrev pub told_plain : Offer → Op → Option (Option Answer)
told_plain (Offer.Send c v) op = told_sender c v op
told_plain (Offer.Recv c) op = told_receiver c op

-- what is told who asks to select and went on by that offer, which is its offer k
abbrev pub told_offer : ℕ → Offer → Op → Option (Option Answer)
told_offer k o op = option_map (option_map (chosen k)) (told_plain o op)

-- what is told who asks to select and went on by its branch k
abbrev pub told_selector : List Offer → Bool → ℕ → Op → Option (Option Answer)
told_selector offers has_default k (Default cases) =
    told_if ((has_default && (k == length offers)) && same_cases cases (map case_of offers)) (Some Answer.DefaultTaken)
told_selector offers has_default k op = elim (slice_get offers k) [ None ↦ None | Some o ↦ told_offer k o op ]

-- what is told who asks and did the operation by its branch k; None where no row has them. Only a select and a try have another branch than 0
abbrev pub told_at : Ask → ℕ → Op → Option (Option Answer)
told_at (Ask.Select offers has_default) k op = told_selector offers has_default k op
told_at (Ask.TryLock l) k op = told_trier l k op
told_at (Ask.TryRLock l) k op = told_rtrier l k op
told_at ask k op = if k == 0 then told_by ask op else None

-- a row of the table: who asks does the operation, by its branch k, and is told that; nothing after an exit and a fault
abbrev pub IsRow : Ask → ℕ → Op → Option Answer → Type 0
IsRow ask k op told = told_at ask k op ≡ Some told

-- the step fits the event, in which g takes part: the places are the same, and some branch's row has both
abbrev pub Fits : ℕ → Step → Event → Type 0
Fits g step e = (place_of g e ≡ Some step.asked.place) × ((k : ℕ) × IsRow step.asked.ask k (done_by g e.op) step.told)

-- the table has a row for what is asked and what g does in an event with the operation, by some branch and with some answer
abbrev pub CanMake : ℕ → Ask → Op → Type 0
CanMake g ask op = (k : ℕ) × (told : Option Answer) × IsRow ask k (done_by g op) told
