-- For each row: its event breaks no rule just where the words of the run so far let it go on.
use Rattle.std.proofs.Common.{◌≡◌, ℕ, ◌<◌, ◌==◌, ◌||◌, ◌&&◌, not, nat_lt, cond, Bool, true, false, List, ◌∷◌}
use Rattle.std.proofs.Common.{length, map, slice_get, filter_map, Option, Some, None, is_none, is_some, refl, sym}
use Rattle.std.proofs.{Common.{◌∙◌, arith}, lemmas.{Bool.Decides.{nat_tests}, Option.slice_get_within}}
use Rattle.std.specs.{List.list_any, Option.option_map}
use Rattle.race_records.specs.declared.{cases.Case.Case, event.{Event.Event, Cause.TheVariants.SendClosed}}
use Rattle.race_records.specs.declared.event.{Cause.TheVariants.{CloseClosed, UnlockFree, RUnlockFree}, Op.Op}
use Rattle.race_records.specs.declared.event.Op.TheVariants.{Send, Recv, Meet}
use Rattle.race_records.specs.declared.event.Op.TheVariants.{RecvClosed, Close, Default, Unlock, RUnlock, TryLock}
use Rattle.race_records.specs.declared.event.Op.TheVariants.{TryRLock, TryFail, OnceBegin, OnceDone, Fault}
use Rattle.race_records.proofs.ListLemmas.{slice_get-within}
use Rattle.race_model.specs.{Events.{sends, receives, count}, State.{over, runs, is_closed, buffered, front}}
use Rattle.race_model.specs.State.{sent, is_held, is_read_held, is_begun, is_ended}
use Rattle.race_model.{specs.Legal.{least_broken, broken, is_ready}, proofs.StateSteps.sent_count}
use Rattle.race_legal.specs.{declared.rule.Rule.Rule, Rules.number_of}
use Rattle.race_requests.specs.{declared.request.{Ask.Ask, Offer.Offer, Waiter.Waiter}, Offers.case_of}
use Rattle.race_requests.specs.Choices.{is_legal_next, lone_event, lone_op, offer_at}
use Rattle.race_requests.specs.Possible.{goes_on, offer_goes_on, meet_goes_on}

-- a rule has a number just where one is told
pub none_is_told : (told : Option Rule) (none : Bool) → is_some told ≡ not none → none ≡ is_none (option_map number_of told)
none_is_told None true is = refl
none_is_told None false is = absurd cc
none_is_told (Some rule) true is = absurd cc
none_is_told (Some rule) false is = refl

-- no rule of the list is broken
abbrev clean : List (ℕ × Bool) → Bool
clean rules = is_none (least_broken rules)

-- the two rules on every event, and then those on the operation
head : (o r t : Bool) (rules : List (ℕ × Bool)) → clean rules ≡ t → clean ((1, o) ∷ (2, not (r && true)) ∷ rules) ≡ (not o && (r && t))
head o r t rules e = grind arith

module _ (caps : ℕ → ℕ) (past : List Event) (g place : ℕ) where
  -- the event in which g does that breaks no rule
  abbrev fits : Op → Bool
  fits op = is_none (broken caps past (record { who = g; op = op; place = place; place2 = None }))

  -- what is said of it where g may act
  abbrev and_acts : Bool → Bool
  and_acts t = not (over past) && (runs g past && t)

  send_row : (c v : ℕ) (closed : Bool) → is_closed c past ≡ closed
      → fits (cond closed (Fault (SendClosed c)) (Send c v)) ≡ and_acts (closed || (nat_lt 0 (caps c) && not (buffered c past == caps c)))
  send_row c v closed is = grind (arith, nat_tests)

  -- a value that waits was sent and isn't received
  more_sent : (c v : ℕ) → front c past ≡ Some v → count (receives c) past < count (sends c) past
  more_sent c v is =
      let within = slice_get_within (filter_map (λ e. sent c e.op) past) (count (receives c) past) v is in
      let counted = sent_count c past in
      omega (arith, within, counted)

  -- where none waits no more were sent than received
  none_left : (c : ℕ) → front c past ≡ None → nat_lt (count (receives c) past) (count (sends c) past) ≡ false
  none_left c is = by (nat_lt (count (receives c) past) (count (sends c) past)) refl
    where
      by : (b : Bool) → nat_lt (count (receives c) past) (count (sends c) past) ≡ b → b ≡ false
      by false e = refl
      by true e =
          let counted = sent_count c past in
          let less : count (receives c) past < length (filter_map (λ e. sent c e.op) past) = grind (arith, nat_tests) in
          let x = slice_get-within (filter_map (λ e. sent c e.op) past) (count (receives c) past) less in
          absurd (let e : Some x.0 ≡ None = sym x.1 ∙ is in cc)

  value_row : (c v : ℕ) → front c past ≡ Some v → count (receives c) past < count (sends c) past → fits (Recv c v) ≡ and_acts (nat_lt 0 (caps c))
  value_row c v is more = grind (arith, nat_tests)

  closed_row : (c : ℕ) → nat_lt (count (receives c) past) (count (sends c) past) ≡ false → fits (RecvClosed c) ≡ and_acts (is_closed c past)
  closed_row c none = grind arith

  recv_row : (c : ℕ) (first : Option ℕ) → front c past ≡ first
      → fits (elim first [ Some v ↦ Recv c v | None ↦ RecvClosed c ]) ≡ and_acts (elim first [ Some v ↦ nat_lt 0 (caps c) | None ↦ is_closed c past ])
  recv_row c (Some v) is = value_row c v is (more_sent c v is)
  recv_row c None is = closed_row c (none_left c is)

  close_row : (c : ℕ) (closed : Bool) → is_closed c past ≡ closed → fits (cond closed (Fault (CloseClosed c)) (Close c)) ≡ and_acts true
  close_row c closed is = grind arith

  unlock_row : (l : ℕ) (held : Bool) → is_held l past ≡ held → fits (cond held (Unlock l) (Fault (UnlockFree l))) ≡ and_acts true
  unlock_row l held is = grind arith

  runlock_row : (l : ℕ) (held : Bool) → is_read_held l past ≡ held → fits (cond held (RUnlock l) (Fault (RUnlockFree l))) ≡ and_acts true
  runlock_row l held is = grind arith

  -- a failed try stands under the two rules on every event alone
  try_row : (l : ℕ) (first : Bool) → fits (cond first (TryLock l) (TryFail l)) ≡ and_acts (not first || (not (is_held l past) && not (is_read_held l past)))
  try_row l first = grind arith

  tryr_row : (l : ℕ) (first : Bool) → fits (cond first (TryRLock l) (TryFail l)) ≡ and_acts (not first || not (is_held l past))
  tryr_row l first = grind arith

  do_row : (o : ℕ) (begun : Bool) → is_begun o past ≡ begun → fits (cond begun (OnceDone o) (OnceBegin o)) ≡ and_acts (not begun || is_ended o past)
  do_row o begun is = grind arith

  -- the event of what g does, if it does anything
  abbrev made : Option Op → Option Event
  made op = elim op [ None ↦ None | Some op ↦ Some (record { who = g; op = op; place = place; place2 = None }) ]

  -- an offer on nil makes no event
  nothing : (o r : Bool) → false ≡ (not o && (r && false))
  nothing o r = grind arith

  -- so does a number behind the last offer
  offer_row : (o : Option Offer) → is_legal_next caps past (made (elim o [ Some o ↦ lone_op past o | None ↦ None ]))
      ≡ and_acts (offer_goes_on caps past o)
  offer_row None = nothing (over past) (runs g past)
  offer_row (Some (Offer.Send None v)) = nothing (over past) (runs g past)
  offer_row (Some (Offer.Send (Some c) v)) = send_row c v (is_closed c past) refl
  offer_row (Some (Offer.Recv None)) = nothing (over past) (runs g past)
  offer_row (Some (Offer.Recv (Some c))) = recv_row c (front c past) refl

  -- a default breaks no rule where no case is ready
  default_row : (cases : List Case) → fits (Default cases) ≡ and_acts (not (list_any (is_ready caps past) cases))
  default_row cases = grind arith

  select_row : (offers : List Offer) (k : ℕ) (by_default : Bool)
      → is_legal_next caps past (made (cond by_default (Some (Default (map case_of offers))) (offer_at offers k (lone_op past))))
      ≡ and_acts (cond by_default (not (list_any (is_ready caps past) (map case_of offers))) (offer_goes_on caps past (slice_get offers k)))
  select_row offers k true = default_row (map case_of offers)
  select_row offers k false = offer_row (slice_get offers k)

  row_goes_on : (ask : Ask) (k : ℕ)
      → is_legal_next caps past (lone_event past (record { who = g; asked = record { ask = ask; place = place } }) k) ≡ and_acts (goes_on caps past g ask k)
  row_goes_on (Ask.Go h) k = grind arith
  row_goes_on Ask.Exit k = grind arith
  row_goes_on (Ask.Read x) k = grind (arith, nat_tests)
  row_goes_on (Ask.Write x v) k = grind arith
  row_goes_on (Ask.Send None v) k = nothing (over past) (runs g past)
  row_goes_on (Ask.Send (Some c) v) k = send_row c v (is_closed c past) refl
  row_goes_on (Ask.Recv None) k = nothing (over past) (runs g past)
  row_goes_on (Ask.Recv (Some c)) k = recv_row c (front c past) refl
  row_goes_on (Ask.Close None) k = grind arith
  row_goes_on (Ask.Close (Some c)) k = close_row c (is_closed c past) refl
  row_goes_on (Ask.Select offers has_default) k = select_row offers k (has_default && (k == length offers))
  row_goes_on (Ask.Lock l) k = grind arith
  row_goes_on (Ask.RLock l) k = grind arith
  row_goes_on (Ask.Unlock l) k = unlock_row l (is_held l past) refl
  row_goes_on (Ask.RUnlock l) k = runlock_row l (is_read_held l past) refl
  row_goes_on (Ask.TryLock l) k = try_row l (k == 0)
  row_goes_on (Ask.TryRLock l) k = tryr_row l (k == 0)
  row_goes_on (Ask.Do o) k = do_row o (is_begun o past) refl
  row_goes_on (Ask.EndDo o) k = grind arith

-- each request goes on alone just where the words of the run so far say so
pub each_row : (caps : ℕ → ℕ) (past : List Event) (w : Waiter) (k : ℕ)
    → is_legal_next caps past (lone_event past w k) ≡ (not (over past) && (runs w.who past && goes_on caps past w.who w.asked.ask k))
each_row caps past w k = row_goes_on caps past w.who w.asked.place w.asked.ask k

-- so does a sender with a receiver of the same channel
pub each_meet : (caps : ℕ → ℕ) (past : List Event) (sender receiver place place2 c v : ℕ)
    → is_legal_next caps past (Some (record { who = sender; op = Meet receiver c v; place = place; place2 = Some place2 }))
    ≡ (not (over past) && ((runs sender past && runs receiver past) && meet_goes_on caps past sender receiver c))
each_meet caps past s r place place2 c v = grind (arith, nat_tests)
