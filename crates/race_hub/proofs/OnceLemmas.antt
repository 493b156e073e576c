-- How often a goroutine stands in the lists of a hub, one step on.
use Rattle.std.proofs.Common.{◌≡◌, ◌≢◌, ◌==◌, ◌||◌, ◌&&◌, not, ℕ, zero, suc, ◌<◌, ◌≤◌, ◌+◌, ◌-◌, ◌++◌, nat_lt, Bool}
use Rattle.std.proofs.Common.{true, false, cond, if◌then◌else◌, List, [], ◌∷◌, length, take, Option, Some, None, refl}
use Rattle.std.proofs.Common.{sym, ap, ◌∙◌, arith, slice_get, true≢false, take_all, inl, inr, ◌⊎◌, option_map}
use Rattle.std.proofs.{Math.Bool.or-false, lemmas.{Bool.Decides.nat_tests, List.Sums.{sum_by-append, sum_by-cons}}}
use Rattle.std.proofs.lemmas.List.Sums.{sum_by-remove, sum_by_push, sum_by-le-sum_by}
use Rattle.std.proofs.lemmas.Option.{none-some, slice_get_within, get_or_from_slice_get}
use Rattle.std.specs.{List.{remove, count_by}, Prelude.is_some}
use Rattle.race_records.specs.declared.event.Cause.TheVariants.{SendClosed, CloseClosed, CloseNil, UnlockFree}
use Rattle.race_records.specs.declared.event.{Cause.TheVariants.RUnlockFree, Event.Event, Op.{Op, TheVariants.Go}}
use Rattle.race_records.specs.declared.event.Op.TheVariants.{Exit, Read, Write, Send, Recv, Meet, RecvClosed, Close}
use Rattle.race_records.specs.declared.event.Op.TheVariants.{Lock, Unlock, RLock, RUnlock, TryLock, TryRLock, TryFail}
use Rattle.race_records.specs.declared.event.Op.TheVariants.{OnceBegin, OnceEnd, OnceDone, Fault, Default}
use Rattle.race_model.specs.{Events.{starts, is_exit, is_fault, has, has_exited, count}, State.{over, started, runs}}
use Rattle.race_model.specs.Legal.{broken, rules, actors_run, receiver_runs, IsLegal}
use Rattle.race_model.proofs.{Indexes.{at_below, take_suc}, CountSteps.{as_number, positive_more, has_exited_push}}
use Rattle.race_model.proofs.{StateSteps.{started_push, runs_push}, ChannelOrder.rules_kept}
use Rattle.race_requests.specs.declared.{choice.Choice.Choice, request.{Answer.Answer, Ask.Ask, Offer.Offer}}
use Rattle.race_requests.specs.{declared.request.Waiter.Waiter, Choices.{op_of, meet_op, offer_at, lone_event}}
use Rattle.race_requests.specs.{Choices.{meet_event, event_of}, Table.{IsRow, done_by, offers_of, told_if, told_sender}}
use Rattle.race_requests.specs.Table.{told_receiver, told_closer, told_trier, told_rtrier, told_by, told_plain, chosen}
use Rattle.race_requests.proofs.{RowLemmas.{IsByOffer, IsByDefault, by_either, by_first}, ChoiceLemmas.some_is}
use Rattle.race_hub.specs.Fires.{without, partner_of, goes_on, IsPartnerRow, started_by, begins}
use Rattle.race_hub.{specs.Kept.{has_failed, is_active}, proofs.TableLemmas.{same_number, both_true, both_false}}

-- Counts by a test.

remove_before : {X : Type 0} (xs : List X) (j i : ℕ) → i < j → slice_get (remove xs j) i ≡ slice_get xs i
remove_before xs zero i less = absurd (omega (arith, less))
remove_before [] (suc j) i less = refl
remove_before (x ∷ xs) (suc j) zero less = refl
remove_before (x ∷ xs) (suc j) (suc i) less = remove_before xs j i (omega (arith, less))

module _ {X : Type 0} (p : X → Bool) where
  pub count_append : (xs ys : List X) → count_by p (xs ++ ys) ≡ count_by p xs + count_by p ys
  count_append xs ys = sum_by-append (λ x. cond (p x) 1 0) xs ys

  pub count_one : (x : X) → count_by p (x ∷ []) ≡ as_number (p x)
  count_one x = let one = sum_by-cons (λ x. cond (p x) 1 0) x [] in omega (arith, one)

  pub count_cons : (x : X) (xs : List X) → count_by p (x ∷ xs) ≡ as_number (p x) + count_by p xs
  count_cons x xs = sum_by-cons (λ x. cond (p x) 1 0) x xs

  pub count_remove : (xs : List X) (i : ℕ) (x : X) → slice_get xs i ≡ Some x → count_by p (remove xs i) + as_number (p x) ≡ count_by p xs
  count_remove xs i x is =
      let one = sum_by-remove (λ x. cond (p x) 1 0) xs i x (slice_get_within xs i x is) in
      let same = ap (λ x. as_number (p x)) (get_or_from_slice_get xs i x x is) in
      omega (arith, one, same)

  -- 1 where there is one and it passes
  abbrev pub passes : Option X → ℕ
  passes None = 0
  passes (Some x) = as_number (p x)

  count_two : (xs : List X) (i j : ℕ) (x y : X) → slice_get xs i ≡ Some x → slice_get xs j ≡ Some y → i < j
      → count_by p (remove (remove xs j) i) + as_number (p x) + as_number (p y) ≡ count_by p xs
  count_two xs i j x y first second less =
      let one = count_remove xs j y second in
      let two = count_remove (remove xs j) i x (remove_before xs j i less ∙ first) in
      omega (arith, one, two)

  pub count_without : (t : Choice) (xs : List X) (x : X) → slice_get xs t.place ≡ Some x → t.partner ≤ length xs → t.partner ≢ t.place + 1
      → count_by p (without t xs) + as_number (p x) + passes (partner_of t xs) ≡ count_by p xs
  count_without t xs x is partner apart = by (t.partner == 0) (nat_lt t.place (t.partner - 1)) refl refl
    where
      by : (alone before : Bool) → (t.partner == 0) ≡ alone → nat_lt t.place (t.partner - 1) ≡ before
          → count_by p (if alone then remove xs t.place else (if before then remove (remove xs (t.partner - 1)) t.place
          else remove (remove xs t.place) (t.partner - 1)))
          + as_number (p x) + passes (if alone then None else slice_get xs (t.partner - 1)) ≡ count_by p xs
      by true before none test = let one = count_remove xs t.place x is in omega (arith, one)
      by false true none test =
          let some : 0 < t.partner = grind (arith, nat_tests) in
          let less : t.place < t.partner - 1 = grind (arith, nat_tests) in
          let other = at_below xs (t.partner - 1) (omega (arith, some, partner)) in
          let two = count_two xs t.place (t.partner - 1) x other.0 is other.1 less in
          let same : passes (slice_get xs (t.partner - 1)) ≡ as_number (p other.0) = ap passes other.1 in
          omega (arith, two, same)
      by false false none test =
          let some : 0 < t.partner = grind (arith, nat_tests) in
          let least : t.partner - 1 ≤ t.place = grind (arith, nat_tests) in
          let other = at_below xs (t.partner - 1) (omega (arith, some, partner)) in
          let two = count_two xs (t.partner - 1) t.place other.0 x other.1 is (omega (arith, least, some, apart)) in
          let same : passes (slice_get xs (t.partner - 1)) ≡ as_number (p other.0) = ap passes other.1 in
          omega (arith, two, same)

pub at_most_one : (b : Bool) → as_number b ≤ 1
at_most_one true = omega arith
at_most_one false = omega arith

-- Who is told nothing.

-- who does it goes on no more
abbrev pub leaves : Op → Bool
leaves op = is_exit op || is_fault op

-- a test tells its answer or nothing
by_test : (b : Bool) (answer told : Option Answer) (op : Op) → told_if b answer ≡ Some told → is_some answer ≡ not (leaves op)
    → is_some told ≡ not (leaves op)
by_test true answer told op row is = let same : answer ≡ told = cc in ap is_some (sym same) ∙ is
by_test false answer told op row is = absurd cc

sender_leaves : (c : Option ℕ) (v : ℕ) (op : Op) (told : Option Answer) → told_sender c v op ≡ Some told → is_some told ≡ not (leaves op)
sender_leaves (Some c) v (Send d w) told row = by_test ((d == c) && (w == v)) (Some Answer.Unit) told (Send d w) row refl
sender_leaves (Some c) v (Fault (SendClosed d)) told row = by_test (d == c) None told (Fault (SendClosed d)) row refl
sender_leaves _ v _ told row = absurd cc

receiver_leaves : (c : Option ℕ) (op : Op) (told : Option Answer) → told_receiver c op ≡ Some told → is_some told ≡ not (leaves op)
receiver_leaves (Some c) (Recv d v) told row = by_test (d == c) (Some (Answer.Value v)) told (Recv d v) row refl
receiver_leaves (Some c) (RecvClosed d) told row = by_test (d == c) (Some Answer.Closed) told (RecvClosed d) row refl
receiver_leaves _ _ told row = absurd cc

closer_leaves : (c : Option ℕ) (op : Op) (told : Option Answer) → told_closer c op ≡ Some told → is_some told ≡ not (leaves op)
closer_leaves (Some c) (Close d) told row = by_test (d == c) (Some Answer.Unit) told (Close d) row refl
closer_leaves (Some c) (Fault (CloseClosed d)) told row = by_test (d == c) None told (Fault (CloseClosed d)) row refl
closer_leaves None (Fault CloseNil) told row = by_test true None told (Fault CloseNil) row refl
closer_leaves _ _ told row = absurd cc

trier_leaves : (l k : ℕ) (op : Op) (told : Option Answer) → told_trier l k op ≡ Some told → is_some told ≡ not (leaves op)
trier_leaves l k (TryLock m) told row = by_test ((k == 0) && (m == l)) (Some (Answer.Tried true)) told (TryLock m) row refl
trier_leaves l k (TryFail m) told row = by_test ((k == 1) && (m == l)) (Some (Answer.Tried false)) told (TryFail m) row refl
trier_leaves l k _ told row = absurd cc

rtrier_leaves : (l k : ℕ) (op : Op) (told : Option Answer) → told_rtrier l k op ≡ Some told → is_some told ≡ not (leaves op)
rtrier_leaves l k (TryRLock m) told row = by_test ((k == 0) && (m == l)) (Some (Answer.Tried true)) told (TryRLock m) row refl
rtrier_leaves l k (TryFail m) told row = by_test ((k == 1) && (m == l)) (Some (Answer.Tried false)) told (TryFail m) row refl
rtrier_leaves l k _ told row = absurd cc

plain_leaves : (o : Offer) (op : Op) (told : Option Answer) → told_plain o op ≡ Some told → is_some told ≡ not (leaves op)
plain_leaves (Offer.Send c v) op told row = sender_leaves c v op told row
plain_leaves (Offer.Recv c) op told row = receiver_leaves c op told row

selector_leaves : (offers : List Offer) (has_default : Bool) (k : ℕ) (op : Op) (told : Option Answer)
    → IsByOffer offers has_default k op told ⊎ IsByDefault offers has_default k op told → is_some told ≡ not (leaves op)
selector_leaves offers has_default k op told (inl is) =
    ap is_some is.alone.told_is ∙ named is.alone.plain ∙ plain_leaves is.offer op is.alone.plain is.alone.row
  where
    named : (plain : Option Answer) → is_some (option_map (chosen k) plain) ≡ is_some plain
    named None = refl
    named (Some answer) = refl
selector_leaves offers has_default k op told (inr is) = ap is_some is.told_is ∙ ap (λ o. not (leaves o)) (sym is.did)

first_leaves : (ask : Ask) (op : Op) (told : Option Answer) → told_by ask op ≡ Some told → is_some told ≡ not (leaves op)
first_leaves (Ask.Go h) (Go g) told row = by_test (g == h) (Some Answer.Unit) told (Go g) row refl
first_leaves Ask.Exit Exit told row = by_test true None told Exit row refl
first_leaves (Ask.Read x) (Read y v) told row = by_test (y == x) (Some (Answer.Value v)) told (Read y v) row refl
first_leaves (Ask.Write x v) (Write y w) told row = by_test ((y == x) && (w == v)) (Some Answer.Unit) told (Write y w) row refl
first_leaves (Ask.Send c v) op told row = sender_leaves c v op told row
first_leaves (Ask.Recv c) op told row = receiver_leaves c op told row
first_leaves (Ask.Close c) op told row = closer_leaves c op told row
first_leaves (Ask.Lock l) (Lock m) told row = by_test (m == l) (Some Answer.Unit) told (Lock m) row refl
first_leaves (Ask.Unlock l) (Unlock m) told row = by_test (m == l) (Some Answer.Unit) told (Unlock m) row refl
first_leaves (Ask.Unlock l) (Fault (UnlockFree m)) told row = by_test (m == l) None told (Fault (UnlockFree m)) row refl
first_leaves (Ask.RLock l) (RLock m) told row = by_test (m == l) (Some Answer.Unit) told (RLock m) row refl
first_leaves (Ask.RUnlock l) (RUnlock m) told row = by_test (m == l) (Some Answer.Unit) told (RUnlock m) row refl
first_leaves (Ask.RUnlock l) (Fault (RUnlockFree m)) told row = by_test (m == l) None told (Fault (RUnlockFree m)) row refl
first_leaves (Ask.Do o) (OnceBegin p) told row = by_test (p == o) (Some Answer.Run) told (OnceBegin p) row refl
first_leaves (Ask.Do o) (OnceDone p) told row = by_test (p == o) (Some Answer.AlreadyDone) told (OnceDone p) row refl
first_leaves (Ask.EndDo o) (OnceEnd p) told row = by_test (p == o) (Some Answer.Unit) told (OnceEnd p) row refl
first_leaves _ _ told row = absurd cc

row_leaves : (ask : Ask) (k : ℕ) (op : Op) (told : Option Answer) → IsRow ask k op told → is_some told ≡ not (leaves op)
row_leaves (Ask.Select offers has_default) k op told row = selector_leaves offers has_default k op told (by_either offers has_default k op told row)
row_leaves (Ask.TryLock l) k op told row = trier_leaves l k op told row
row_leaves (Ask.TryRLock l) k op told row = rtrier_leaves l k op told row
row_leaves ask k op told row = first_leaves ask op told (by_first k (told_by ask op) told row).1

done_leaves : (g : ℕ) (op : Op) → leaves (done_by g op) ≡ leaves op
done_leaves g (Meet r c v) = by (r == g)
  where
    by : (b : Bool) → leaves (cond b (Recv c v) (Send c v)) ≡ false
    by true = refl
    by false = refl
done_leaves g _ = refl

-- who asked is told nothing just where it leaves
pub told_leaves : (ask : Ask) (k g : ℕ) (op : Op) (told : Option Answer) → IsRow ask k (done_by g op) told → is_some told ≡ not (leaves op)
told_leaves ask k g op told row = row_leaves ask k (done_by g op) told row ∙ ap not (done_leaves g op)

-- Whose event it is.

with_op : (who place : ℕ) (place2 : Option ℕ) (made : Option Op) (e : Event)
    → elim made [ None ↦ None | Some op ↦ Some (record { who = who; op = op; place = place; place2 = place2 }) ] ≡ Some e → e.who ≡ who
with_op who place place2 None e is = absurd (none-some e is)
with_op who place place2 (Some op) e is = ap (λ (e : Event). e.who) (sym (some_is is))

-- the event of a choice is its first request's
pub event_who : (past : List Event) (waiting : List Waiter) (t : Choice) (w : Waiter) (e : Event) → slice_get waiting t.place ≡ Some w
    → event_of past waiting t ≡ Some e → e.who ≡ w.who
event_who past waiting t w e is makes = by (t.partner == 0) (slice_get waiting (t.partner - 1)) (ap (λ (o : Option Waiter). elim o [
  | None ↦ None
  | Some w ↦ cond (t.partner == 0) (lone_event past w t.offer) (elim (slice_get waiting (t.partner - 1)) [
    | None ↦ None
    | Some r ↦ meet_event w t.offer r (t.partner_offer - 1)
  ])
]) (sym is) ∙ makes)
  where
    by : (alone : Bool) (other : Option Waiter)
        → cond alone (lone_event past w t.offer) (elim other [ None ↦ None | Some r ↦ meet_event w t.offer r (t.partner_offer - 1) ]) ≡ Some e → e.who ≡ w.who
    by true other made = with_op w.who w.asked.place None (op_of past w.asked.ask t.offer) e made
    by false None made = absurd (none-some e made)
    by false (Some r) made =
        with_op w.who w.asked.place (Some r.asked.place)
        (offer_at (offers_of w.asked.ask) t.offer (λ a. offer_at (offers_of r.asked.ask) (t.partner_offer - 1) (meet_op r.who a))) e made

-- Who is active.

-- what a legal start starts: not main, and whom no Go started
pub go_kept : (caps : ℕ → ℕ) (past : List Event) (e : Event) (h : ℕ) → broken caps past e ≡ None → e.op ≡ Go h → (h == 0 || started h past) ≡ false
go_kept caps past e h legal is =
    rules_kept (rules caps past (record { who = e.who; op = Go h; place = e.place; place2 = e.place2 })) 2 (3, h == 0 || started h past)
    (ap (λ op. broken caps past (record { who = e.who; op = op; place = e.place; place2 = e.place2 })) (sym is) ∙ legal) refl

-- where no Go started it, who isn't main hasn't exited
pub unstarted_stays : (caps : ℕ → ℕ) (past : List Event) (g : ℕ) → IsLegal caps past → (g == 0) ≡ false → started g past ≡ false → has_exited g past ≡ false
unstarted_stays caps past g legal main fresh =
    let all = take_all (length past) past (omega arith) in
    ap (has_exited g) (sym all) ∙ upto (length past) (omega arith) (ap (started g) all ∙ fresh)
  where
    here : (n : ℕ) (e : Event) → slice_get past n ≡ Some e → started g (take n past) ≡ false → (b : Bool) → (e.who == g) ≡ b → (b && is_exit e.op) ≡ false
    here n e at none false q = refl
    here n e at none true q =
        let acts = rules_kept (rules caps (take n past) e) 1 (2, not (actors_run (take n past) e)) (legal n e at) refl in
        let runs_who = (both_true (runs e.who (take n past)) (receiver_runs (take n past) e.op) (by (actors_run (take n past) e) acts)).0 in
        let runs_not = ap (λ b. (b || started g (take n past)) && not (has_exited g (take n past))) main
        ∙ ap (λ b. b && not (has_exited g (take n past))) none in
        absurd (true≢false (sym runs_who ∙ ap (λ k. runs k (take n past)) (same_number e.who g q) ∙ runs_not))
      where
        by : (b : Bool) → not b ≡ false → b ≡ true
        by true is = refl
        by false is = absurd cc

    upto : (n : ℕ) → n ≤ length past → started g (take n past) ≡ false → has_exited g (take n past) ≡ false
    upto zero le none = refl
    upto (suc n) le none =
        let at = at_below past n (omega (arith, le)) in
        let cut = take_suc n past at.0 at.1 in
        let parts = both_false (started g (take n past)) (starts g at.0.op)
        (sym (started_push g (take n past) at.0) ∙ ap (started g) (sym cut) ∙ none) in
        let before = upto n (omega (arith, le)) parts.0 in
        ap (has_exited g) cut ∙ has_exited_push g (take n past) at.0
        ∙ ap (λ b. b || ((at.0.who == g) && is_exit at.0.op)) before ∙ here n at.0 at.1 parts.0 (at.0.who == g) refl

-- while the run isn't over nobody has failed
pub nobody_failed : (past : List Event) (g : ℕ) → over past ≡ false → has_failed g past ≡ false
nobody_failed past g on =
    let none : nat_lt 0 (count is_fault past) ≡ false = (both_false (has_exited 0 past) (has is_fault past) on).1 in
    let le : count_by (λ (e : Event). (e.who == g) && is_fault e.op) past ≤ count is_fault past =
    sum_by-le-sum_by (λ (e : Event). cond ((e.who == g) && is_fault e.op) 1 0) (λ (e : Event). cond (is_fault e.op) 1 0) past
    (λ e. each (e.who == g) (is_fault e.op)) in
    low _ _ le none
  where
    each : (a b : Bool) → cond (a && b) 1 0 ≤ cond b 1 0
    each true b = omega arith
    each false true = omega arith
    each false false = omega arith

    low : (m n : ℕ) → m ≤ n → nat_lt 0 n ≡ false → nat_lt 0 m ≡ false
    low m n le none = grind (arith, nat_tests)

pub has_failed_push : (g : ℕ) (past : List Event) (e : Event) → has_failed g (past ++ e ∷ []) ≡ (has_failed g past || ((e.who == g) && is_fault e.op))
has_failed_push g past e = ap (nat_lt 0) (sum_by_push (λ e. cond ((e.who == g) && is_fault e.op) 1 0) past e) ∙ positive_more _ ((e.who == g) && is_fault e.op)

pub active_push : (g : ℕ) (past : List Event) (e : Event)
    → is_active g (past ++ e ∷ [])
    ≡ (((g == 0 || (started g past || starts g e.op)) && not (has_exited g past || ((e.who == g) && is_exit e.op)))
    && not (has_failed g past || ((e.who == g) && is_fault e.op)))
active_push g past e = λ i. runs_push g past e i && not (has_failed_push g past e i)

-- One step of the count: v says that g is main or was started, x that it exited, f that it failed.

leaving : (v x f lx lf : Bool) (m n : ℕ) → m ≡ cond ((v && not x) && not f) 1 0 → m ≡ n + as_number (lx || lf) → 0 < m
    → n ≡ cond ((v && not (x || lx)) && not (f || lf)) 1 0
leaving true false false true lf m n old sums less = omega (arith, old, sums)
leaving true false false false true m n old sums less = omega (arith, old, sums)
leaving true false false false false m n old sums less = omega (arith, old, sums)
leaving true true f lx lf m n old sums less = absurd (omega (arith, old, less))
leaving true false true lx lf m n old sums less = absurd (omega (arith, old, less))
leaving false x f lx lf m n old sums less = absurd (omega (arith, old, less))

-- who is started was nothing before
pub record IsFresh (v x f lx lf : Bool) : Type 0 where
  pub main : v ≡ false
  pub exited : x ≡ false
  pub failed : f ≡ false
  pub no_exit : lx ≡ false
  pub no_fault : lf ≡ false

starting : (v x f q lx lf : Bool) (m n : ℕ) → IsFresh v x f lx lf → m ≡ cond ((v && not x) && not f) 1 0 → m + 1 ≡ n + as_number (q && (lx || lf))
    → n ≡ cond ((true && not (x || (q && lx))) && not (f || (q && lf))) 1 0
starting true x f q lx lf m n fresh old sums = absurd (true≢false fresh.main)
starting false true f q lx lf m n fresh old sums = absurd (true≢false fresh.exited)
starting false false true q lx lf m n fresh old sums = absurd (true≢false fresh.failed)
starting false false false q true lf m n fresh old sums = absurd (true≢false fresh.no_exit)
starting false false false q false true m n fresh old sums = absurd (true≢false fresh.no_fault)
starting false false false true false false m n fresh old sums = omega (arith, old, sums)
starting false false false false false false m n fresh old sums = omega (arith, old, sums)

pub one_step : (z s x f b q lx lf : Bool) (m n : ℕ) → m ≡ cond (((z || s) && not x) && not f) 1 0 → m + as_number b ≡ n + as_number (q && (lx || lf))
    → (q ≡ true → 0 < m) → (b ≡ true → IsFresh (z || s) x f lx lf)
    → n ≡ cond (((z || (s || b)) && not (x || (q && lx))) && not (f || (q && lf))) 1 0
one_step z s x f true q lx lf m n old sums stands fresh =
    starting (z || s) x f q lx lf m n (fresh refl) old sums ∙ ap (λ b. cond ((b && not (x || (q && lx))) && not (f || (q && lf))) 1 0) (sym (all z s))
  where
    all : (z s : Bool) → (z || (s || true)) ≡ true
    all true s = refl
    all false true = refl
    all false false = refl
one_step z s x f false true lx lf m n old sums stands fresh =
    leaving (z || s) x f lx lf m n old (omega (arith, sums)) (stands refl)
    ∙ ap (λ b. cond (((z || b) && not (x || lx)) && not (f || lf)) 1 0) (sym (or-false s))
one_step z s x f false false lx lf m n old sums stands fresh =
    let same : n ≡ m = omega (arith, sums) in
    same ∙ old ∙ sym (λ i. cond (((z || or-false s i) && not (or-false x i)) && not (or-false f i)) 1 0)

-- Who is ready after a firing.

starts_is : (g : ℕ) (op : Op) → as_number (starts g op) ≡ as_number (elim (started_by op) [ None ↦ false | Some h ↦ h == g ])
starts_is g (Go k) = refl
starts_is g _ = refl

pub starts_go : (g : ℕ) (op : Op) → starts g op ≡ true → op ≡ Go g
starts_go g (Go k) is = ap Go (same_number k g is)
starts_go g _ is = absurd cc

-- whom a legal event starts was nothing before
pub started_fresh : (caps : ℕ → ℕ) (past : List Event) (e : Event) (g : ℕ) → IsLegal caps past → broken caps past e ≡ None → starts g e.op ≡ true
    → IsFresh (g == 0 || started g past) (has_exited g past) (has_failed g past) (is_exit e.op) (is_fault e.op)
started_fresh caps past e g legal kept is =
    let goes = starts_go g e.op is in
    let none = go_kept caps past e g kept goes in
    let parts = both_false (g == 0) (started g past) none in
    record {
      main = none;
      exited = unstarted_stays caps past g legal parts.0 parts.1;
      failed = nobody_failed past g (rules_kept (rules caps past e) 0 (1, over past) kept refl);
      no_exit = ap is_exit goes;
      no_fault = ap is_fault goes;
    }

-- who leaves and who goes on are together who asked
pub asker_balance : (l q : Bool) → as_number (not l && q) + as_number (q && l) ≡ as_number q
asker_balance true true = refl
asker_balance true false = refl
asker_balance false true = refl
asker_balance false false = refl

abbrev pub is_waiter : ℕ → Waiter → Bool
is_waiter g w = w.who == g

module _ (g : ℕ) where
  -- how often g is ready
  abbrev pub ready_of : List (ℕ × Answer) → ℕ
  ready_of ready = count_by (λ (r : ℕ × Answer). r.0 == g) ready

  pub goes_count : (w : Waiter) (told : Option Answer) → ready_of (goes_on (Some w) told) ≡ as_number (is_some told && (w.who == g))
  goes_count w None = refl
  goes_count w (Some answer) = count_one (λ (r : ℕ × Answer). r.0 == g) (w.who, answer)

  pub partner_count : (w : Option Waiter) (branch : ℕ) (op : Op) (told : Option Answer) → IsPartnerRow w branch op told
      → ready_of (goes_on w told) ≡ passes (is_waiter g) w
  partner_count None branch op told row = refl
  partner_count (Some w) branch op told row = goes_count w told ∙ ap (λ (o : Option Answer). as_number (is_some o && (w.who == g))) row.0.1

  begun_by : (started : Option ℕ) → ready_of (begins started) ≡ as_number (elim started [ None ↦ false | Some h ↦ h == g ])
  begun_by None = refl
  begun_by (Some h) = count_one (λ (r : ℕ × Answer). r.0 == g) (h, Answer.Begin)

  pub begun_count : (op : Op) → ready_of (begins (started_by op)) ≡ as_number (starts g op)
  begun_count op = begun_by (started_by op) ∙ sym (starts_is g op)

  pub four_counts : (a b c d : List (ℕ × Answer)) → ready_of (a ++ b ++ c ++ d) ≡ ready_of a + ready_of b + ready_of c + ready_of d
  four_counts a b c d =
      let p = count_append (λ (r : ℕ × Answer). r.0 == g) (a ++ b ++ c) d in
      let q = count_append (λ (r : ℕ × Answer). r.0 == g) (a ++ b) c in
      let r = count_append (λ (r : ℕ × Answer). r.0 == g) a b in
      omega (arith, p, q, r)
