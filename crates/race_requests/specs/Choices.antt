-- The choices of a waiting list: which of its requests can go on, each alone or with whom it meets. (The Go Programming Language Specification, "Send
-- statements", "Receive operator", "Channel types", "Select statements"; package sync)
use Rattle.std.specs.Prelude.{ℕ, ◌+◌, ◌-◌, ◌==◌, ◌&&◌, ◌||◌, not, cond, Bool, false, List, ◌∷◌, length, map, filter}
use Rattle.std.specs.{Prelude.{slice_get, Option, Some, None, is_none}, List.{flat_map, range_with_len, list_any}}
use Rattle.race_records.specs.declared.event.Cause.TheVariants.{SendClosed, CloseClosed, CloseNil, UnlockFree}
use Rattle.race_records.specs.declared.event.{Cause.TheVariants.RUnlockFree, Event.Event, Op.{Op, TheVariants.Go}}
use Rattle.race_records.specs.declared.event.Op.TheVariants.{Exit, Read, Write, Send, Recv, Meet, RecvClosed, Close}
use Rattle.race_records.specs.declared.event.Op.TheVariants.{Default, Lock, Unlock, RLock, RUnlock, TryLock, TryRLock}
use Rattle.race_records.specs.declared.event.Op.TheVariants.{TryFail, OnceBegin, OnceEnd, OnceDone, Fault}
use Rattle.race_model.specs.{State.{last_value, is_closed, front, is_held, is_read_held, is_begun}, Legal.broken}
use Rattle.race_requests.specs.declared.{choice.Choice.Choice, request.{Ask.Ask, Offer.Offer, Waiter.Waiter}}
use Rattle.race_requests.specs.{Offers.case_of, Table.offers_of}

-- request w of the list by its branch k: p and q are 0, or one more than the partner's place and branch
abbrev pub choice : ℕ → ℕ → ℕ → ℕ → Choice
choice w k p q = record { place = w; offer = k; partner = p; partner_offer = q }

-- the operation of an offer without a partner; an offer on nil has none
abbrev pub lone_op : List Event → Offer → Option Op
lone_op past (Offer.Send None v) = None
lone_op past (Offer.Send (Some c) v) = Some (cond (is_closed c past) (Fault (SendClosed c)) (Send c v))
lone_op past (Offer.Recv None) = None
lone_op past (Offer.Recv (Some c)) = Some (elim (front c past) [ Some v ↦ Recv c v | None ↦ RecvClosed c ])

-- what f gives at offer k
abbrev pub offer_at : List Offer → ℕ → (Offer → Option Op) → Option Op
offer_at offers k f = elim (slice_get offers k) [ Some o ↦ f o | None ↦ None ]

-- the operation of a request by its branch k without a partner, after the events past; the default of a select that has one comes behind its offers
abbrev pub op_of : List Event → Ask → ℕ → Option Op
op_of past (Ask.Go h) k = Some (Go h)
op_of past Ask.Exit k = Some Exit
op_of past (Ask.Read x) k = Some (Read x (last_value x past))
op_of past (Ask.Write x v) k = Some (Write x v)
op_of past (Ask.Send c v) k = lone_op past (Offer.Send c v)
op_of past (Ask.Recv c) k = lone_op past (Offer.Recv c)
op_of past (Ask.Close (Some c)) k = Some (cond (is_closed c past) (Fault (CloseClosed c)) (Close c))
op_of past (Ask.Close None) k = Some (Fault CloseNil)
op_of past (Ask.Select offers has_default) k =
    cond (has_default && (k == length offers)) (Some (Default (map case_of offers))) (offer_at offers k (lone_op past))
op_of past (Ask.Lock l) k = Some (Lock l)
op_of past (Ask.Unlock l) k = Some (cond (is_held l past) (Unlock l) (Fault (UnlockFree l)))
op_of past (Ask.RLock l) k = Some (RLock l)
op_of past (Ask.RUnlock l) k = Some (cond (is_read_held l past) (RUnlock l) (Fault (RUnlockFree l)))
-- a try takes the lock by branch 0, and not by another
op_of past (Ask.TryLock l) k = Some (cond (k == 0) (TryLock l) (TryFail l))
op_of past (Ask.TryRLock l) k = Some (cond (k == 0) (TryRLock l) (TryFail l))
op_of past (Ask.Do o) k = Some (cond (is_begun o past) (OnceDone o) (OnceBegin o))
op_of past (Ask.EndDo o) k = Some (OnceEnd o)

-- how many branches a request has: a select by each offer, and by its default; a try with the lock and without
abbrev pub branches : Ask → ℕ
branches (Ask.Select offers has_default) = length offers + cond has_default 1 0
branches (Ask.TryLock l) = 2
branches (Ask.TryRLock l) = 2
branches _ = 1

-- the operation in which a sender's offer meets the offer of the receiver r
abbrev pub meet_op : ℕ → Offer → Offer → Option Op
meet_op r (Offer.Send (Some c) v) (Offer.Recv (Some d)) = cond (c == d) (Some (Meet r c v)) None
meet_op r _ _ = None

-- the event of a request alone, by its branch k
abbrev pub lone_event : List Event → Waiter → ℕ → Option Event
lone_event past w k = elim (op_of past w.asked.ask k) [
  | None ↦ None
  | Some op ↦ Some (record { who = w.who; op = op; place = w.asked.place; place2 = None })
]

-- the event in which w's offer k meets r's offer q
abbrev pub meet_event : Waiter → ℕ → Waiter → ℕ → Option Event
meet_event w k r q = elim (offer_at (offers_of w.asked.ask) k (λ a. offer_at (offers_of r.asked.ask) q (meet_op r.who a))) [
  | None ↦ None
  | Some op ↦ Some (record { who = w.who; op = op; place = w.asked.place; place2 = Some r.asked.place })
]

-- the event of a tuple
abbrev pub event_of : List Event → List Waiter → Choice → Option Event
event_of past waiting t = elim (slice_get waiting t.place) [
  | None ↦ None
  | Some w ↦ cond (t.partner == 0) (lone_event past w t.offer) (elim (slice_get waiting (t.partner - 1)) [
    | None ↦ None
    | Some r ↦ meet_event w t.offer r (t.partner_offer - 1)
  ])
]

-- there is such an event, and it breaks no rule
abbrev pub is_legal_next : (ℕ → ℕ) → List Event → Option Event → Bool
is_legal_next caps past event = elim event [ None ↦ false | Some e ↦ is_none (broken caps past e) ]

-- the tuple is possible
abbrev pub is_possible : (ℕ → ℕ) → List Event → List Waiter → Choice → Bool
is_possible caps past waiting t = is_legal_next caps past (event_of past waiting t)

-- the numbers below n
abbrev pub below : ℕ → List ℕ
below n = range_with_len 0 n

-- request w by its branch k with each branch of the partner r
abbrev pub with_partner : (ℕ → ℕ) → ℕ → ℕ → ℕ → List Choice
with_partner branches w k r = map (λ q. choice w k (r + 1) (q + 1)) (below (branches r))

-- request w by its branch k, alone and then with each partner
abbrev pub of_branch : ℕ → (ℕ → ℕ) → ℕ → ℕ → List Choice
of_branch n branches w k = choice w k 0 0 ∷ flat_map (with_partner branches w k) (below n)

-- all tuples of n requests with so many branches each, in lexicographic order
abbrev pub tuples : ℕ → (ℕ → ℕ) → List Choice
tuples n branches = flat_map (λ w. flat_map (of_branch n branches w) (below (branches w))) (below n)

-- the branches of the request at that place
abbrev pub branches_at : List Waiter → ℕ → ℕ
branches_at waiting i = elim (slice_get waiting i) [ Some w ↦ branches w.asked.ask | None ↦ 0 ]

abbrev pub tuples_of : List Waiter → List Choice
tuples_of waiting = tuples (length waiting) (branches_at waiting)

-- branch k of the ask is its default
abbrev pub is_default_of : Ask → ℕ → Bool
is_default_of (Ask.Select offers has_default) k = has_default && (k == length offers)
is_default_of _ k = false

-- the tuple takes a default
abbrev pub is_default : List Waiter → Choice → Bool
is_default waiting t = elim (slice_get waiting t.place) [ None ↦ false | Some w ↦ is_default_of w.asked.ask t.offer ]

-- the request at that place stands in the tuple, as who asks or as its partner
abbrev pub stands_in : ℕ → Choice → Bool
stands_in place t = (t.place == place) || (t.partner == place + 1)

-- the tuple is possible and takes no default
abbrev pub is_move : (ℕ → ℕ) → List Event → List Waiter → Choice → Bool
is_move caps past waiting t = is_possible caps past waiting t && not (is_default waiting t)

-- the request at that place has another choice than its default
abbrev pub can_move : (ℕ → ℕ) → List Event → List Waiter → ℕ → Bool
can_move caps past waiting place = list_any (stands_in place) (filter (is_move caps past waiting) (tuples_of waiting))

-- the tuple is a choice: a default is none where its select has another
abbrev pub is_choice : (ℕ → ℕ) → List Event → List Waiter → Choice → Bool
is_choice caps past waiting t = is_possible caps past waiting t && not (is_default waiting t && can_move caps past waiting t.place)

-- the choices after the events past, in lexicographic order
abbrev pub choices : (ℕ → ℕ) → List Event → List Waiter → List Choice
choices caps past waiting = filter (is_choice caps past waiting) (tuples_of waiting)
