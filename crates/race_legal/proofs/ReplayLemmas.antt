-- The tables of a replay answer the state words, one event on.
use Rattle.std.proofs.Common.{◌≡◌, ℕ, ◌+◌, ◌<◌, ◌==◌, ◌||◌, ◌&&◌, not, nat_lt, true, List, [], ◌∷◌, ◌++◌, drop, Option}
use Rattle.std.proofs.Common.{Some, None, is_some, unwrap_or, refl, sym, ap, ◌∙◌, subst, arith, rules, IsTrue}
use Rattle.std.proofs.{Common.length-append, lemmas.Bool.{eqb-true, not-false, Decides.nat_tests}}
use Rattle.std.specs.{List.{slice_index_or, list_all, list_any}, Option.{option_to_list, option_map_or}}
use Rattle.race_records.specs.declared.{kind.Kind.Kind, event.{Event.Event, Cause.{Cause, TheVariants.SendClosed}}}
use Rattle.race_records.specs.declared.event.{Cause.TheVariants.{CloseClosed, CloseNil, UnlockFree, RUnlockFree}, Op.Op}
use Rattle.race_records.specs.declared.event.Op.TheVariants.{Go, Exit, Read, Write, Send, Recv, Meet, RecvClosed, Close}
use Rattle.race_records.specs.declared.event.Op.TheVariants.{Default, Lock, Unlock, RLock, RUnlock, TryLock, TryRLock}
use Rattle.race_records.specs.declared.event.Op.TheVariants.{TryFail, OnceBegin, OnceEnd, OnceDone, Fault}
use Rattle.race_records.specs.{declared.cases.{Case.Case, Dir.Dir}, Declarations.{Declaration, capacity_of}}
use Rattle.race_records.specs.Operands.{op_is_in_range, chan_is_in_range, case_is_in_range, named_is_in_range, failed_at}
use Rattle.race_model.specs.Events.{starts, is_exit, is_fault, gives, receives, sends, closes, locks, unlocks, rlocks}
use Rattle.race_model.specs.{Events.{runlocks, once_begins, once_ends}, State.{runs, written, sent}, Legal.broken}
use Rattle.race_model.specs.Legal.{least_broken, op_rules, receiver_runs, actors_run, can_proceed, is_ready}
use Rattle.race_model.{specs.Legal.cause_holds, proofs.StateSteps.{over_push, started_push, last_value_push}}
use Rattle.race_model.proofs.{StateSteps.is_closed_push, CountSteps.{as_number, count_push, has_push, has_exited_push}}
use Rattle.race_model.proofs.LegalSteps.{legal_push}
use Rattle.race_legal.specs.ReplayState.{ReplayState, IsInRange, counts_in, runs_in, innermost_in, begun_in}
use Rattle.race_legal.specs.{After.after, RulesKept.{send_rules, recv_rules, meet_rules, recv_closed_rules, lock_rules}}
use Rattle.race_legal.specs.RulesKept.{can_proceed_in, is_ready_in, cause_holds_in, op_rules_in, receiver_runs_in}
use Rattle.race_legal.specs.{RulesKept.{actors_run_in, rules_in, broken_in}, StandsFor.StandsFor}
use Rattle.race_legal.proofs.{TableSteps.{started_step, exited_step, values_step}, ChannelSteps.closed_step}
use Rattle.race_legal.proofs.ChannelSteps.{queue_step, waiting_push, NoneBroken, none_broken, received_step}
use Rattle.race_legal.proofs.{LockSteps.{held_step, readers_step}, OnceSteps.{begun_step, ended_step, ended_begun_step}}
use Rattle.race_legal.proofs.{Searches.finds_the_same, Shape.{capacities_same, square_after, counts_after}}
use Rattle.race_legal.proofs.ChannelWords.{buffered_is, front_is, empty_is, left_is}
use Rattle.race_legal.proofs.{LockWords.{is_held_is, is_read_held_is}, OnceWords.{is_begun_is, innermost_is}}
use Rattle.race_legal.proofs.OnceWords.{innermost_began, stack_step}

module _ (declarations : List Declaration) (k : ReplayState) (past : List Event) (S : StandsFor declarations k past) where
  -- a goroutine runs where the tables say so
  pub runs_is : (g : ℕ) → g < counts_in k Kind.Goroutine → runs g past ≡ runs_in k.goroutines g
  runs_is g less = λ i. (g == 0 || S.started g less i) && not (S.exited g less i)

  -- so do all who take part
  actors_run_is : (e : Event) → IsInRange (counts_in k) e → actors_run past e ≡ actors_run_in k.goroutines e.who e.op
  actors_run_is e (who, op) = λ i. runs_is e.who who i && by e.op op i
    where
      by : (o : Op) → IsTrue (op_is_in_range (counts_in k) o) → receiver_runs past o ≡ receiver_runs_in k.goroutines o
      by (Meet r c v) is = let less : r < counts_in k Kind.Goroutine = grind (arith, nat_tests) in runs_is r less
      by _ is = refl

  -- the rules on a channel, from its row
  module _ (c : ℕ) (less : c < counts_in k Kind.Chan) where
    send_rules_is : (who v : ℕ) → op_rules (capacity_of declarations) past who (Send c v) ≡ send_rules k.channels c
    send_rules_is who v = λ i. (5, S.capacity c less i == 0) ∷ (6, S.closed c less i)
        ∷ (7, buffered_is declarations k past S c less i == S.capacity c less i) ∷ []

    recv_rules_is : (who v : ℕ) → op_rules (capacity_of declarations) past who (Recv c v) ≡ recv_rules k.channels c v
    recv_rules_is who v = λ i. (5, S.capacity c less i == 0) ∷ (8, empty_is declarations k past S c less i)
        ∷ (9, not (gives (front_is declarations k past S c less i) v)) ∷ []

    meet_rules_is : (who r v : ℕ) → op_rules (capacity_of declarations) past who (Meet r c v) ≡ (4, r == who) ∷ meet_rules k.channels c
    meet_rules_is who r v = λ i. (4, r == who) ∷ (5, nat_lt 0 (S.capacity c less i)) ∷ (6, S.closed c less i) ∷ []

    recv_closed_rules_is : (who : ℕ) → op_rules (capacity_of declarations) past who (RecvClosed c) ≡ recv_closed_rules k.channels c
    recv_closed_rules_is who = λ i. (10, not (S.closed c less i)) ∷ (11, left_is declarations k past S c less i) ∷ []

    can_proceed_is : (dir : Dir) → can_proceed (capacity_of declarations) past c dir ≡ can_proceed_in k.channels c dir
    can_proceed_is Dir.Send = λ i. S.closed c less i
        || (nat_lt 0 (S.capacity c less i) && nat_lt (buffered_is declarations k past S c less i) (S.capacity c less i))
    can_proceed_is Dir.Recv = λ i. S.closed c less i || (nat_lt 0 (S.capacity c less i) && nat_lt 0 (buffered_is declarations k past S c less i))

  -- a case is ready where the tables say so, and so is some of them
  is_ready_is : (case : Case) → IsTrue (case_is_in_range (counts_in k Kind.Chan) case)
      → is_ready (capacity_of declarations) past case ≡ is_ready_in k.channels case
  is_ready_is case is = by case.chan is
    where
      by : (chan : Option ℕ) → IsTrue (chan_is_in_range (counts_in k Kind.Chan) chan)
          → is_ready (capacity_of declarations) past (record { dir = case.dir; chan = chan }) ≡ is_ready_in k.channels (record { dir = case.dir; chan = chan })
      by None is = refl
      by (Some c) is = let less : c < counts_in k Kind.Chan = grind (arith, nat_tests) in can_proceed_is c less case.dir

  some_ready_is : (cases : List Case) → IsTrue (list_all (case_is_in_range (counts_in k Kind.Chan)) cases)
      → list_any (is_ready (capacity_of declarations) past) cases ≡ list_any (is_ready_in k.channels) cases
  some_ready_is cases is = finds_the_same (is_ready (capacity_of declarations) past)
      (is_ready_in k.channels) (case_is_in_range (counts_in k Kind.Chan)) cases is_ready_is is

  -- the cause of a fault holds where they say so
  cause_holds_is : (cause : Cause) → IsTrue (option_map_or (named_is_in_range (counts_in k)) (failed_at cause) true)
      → cause_holds past cause ≡ cause_holds_in k cause
  cause_holds_is (SendClosed c) is = let less : c < counts_in k Kind.Chan = grind (arith, nat_tests) in S.closed c less
  cause_holds_is (CloseClosed c) is = let less : c < counts_in k Kind.Chan = grind (arith, nat_tests) in S.closed c less
  cause_holds_is CloseNil is = refl
  cause_holds_is (UnlockFree l) is = let less : l < counts_in k Kind.Lock = grind (arith, nat_tests) in ap not (is_held_is declarations k past S l less)
  cause_holds_is (RUnlockFree l) is = let less : l < counts_in k Kind.Lock = grind (arith, nat_tests) in ap not (is_read_held_is declarations k past S l less)

  -- the rules on locks and onces, from their rows
  lock_rules_is : (who l : ℕ) → l < counts_in k Kind.Lock → op_rules (capacity_of declarations) past who (Lock l) ≡ lock_rules k.locks l
  lock_rules_is who l less = λ i. (13, is_held_is declarations k past S l less i) ∷ (14, is_read_held_is declarations k past S l less i) ∷ []

  -- the rules on the operation, from the tables
  op_rules_is : (who : ℕ) (o : Op) → who < counts_in k Kind.Goroutine → IsTrue (op_is_in_range (counts_in k) o)
      → op_rules (capacity_of declarations) past who o ≡ op_rules_in k who o
  op_rules_is who (Go h) runs is = let less : h < counts_in k Kind.Goroutine = grind (arith, nat_tests) in ap (λ b. (3, h == 0 || b) ∷ []) (S.started h less)
  op_rules_is who Exit runs is = ap (λ o. (20, is_some o) ∷ []) (innermost_is declarations k past S who runs)
  op_rules_is who (Read x v) runs is = let less : x < counts_in k Kind.Var = grind (arith, nat_tests) in ap (λ n. (21, not (n == v)) ∷ []) (S.values x less)
  op_rules_is who (Write x v) runs is = refl
  op_rules_is who (Send c v) runs is = let less : c < counts_in k Kind.Chan = grind (arith, nat_tests) in send_rules_is c less who v
  op_rules_is who (Recv c v) runs is = let less : c < counts_in k Kind.Chan = grind (arith, nat_tests) in recv_rules_is c less who v
  op_rules_is who (Meet r c v) runs is = let less : c < counts_in k Kind.Chan = grind (arith, nat_tests) in meet_rules_is c less who r v
  op_rules_is who (RecvClosed c) runs is = let less : c < counts_in k Kind.Chan = grind (arith, nat_tests) in recv_closed_rules_is c less who
  op_rules_is who (Close c) runs is = let less : c < counts_in k Kind.Chan = grind (arith, nat_tests) in ap (λ b. (12, b) ∷ []) (S.closed c less)
  op_rules_is who (Default cases) runs is = ap (λ b. (22, b) ∷ []) (some_ready_is cases (search rules))
  op_rules_is who (Lock l) runs is = let less : l < counts_in k Kind.Lock = grind (arith, nat_tests) in lock_rules_is who l less
  op_rules_is who (Unlock l) runs is = let less : l < counts_in k Kind.Lock = grind (arith, nat_tests) in
      ap (λ b. (15, not b) ∷ []) (is_held_is declarations k past S l less)
  op_rules_is who (RLock l) runs is = let less : l < counts_in k Kind.Lock = grind (arith, nat_tests) in
      ap (λ b. (13, b) ∷ []) (is_held_is declarations k past S l less)
  op_rules_is who (RUnlock l) runs is =
      let less : l < counts_in k Kind.Lock = grind (arith, nat_tests) in ap (λ b. (16, not b) ∷ []) (is_read_held_is declarations k past S l less)
  op_rules_is who (TryLock l) runs is = let less : l < counts_in k Kind.Lock = grind (arith, nat_tests) in lock_rules_is who l less
  op_rules_is who (TryRLock l) runs is = let less : l < counts_in k Kind.Lock = grind (arith, nat_tests) in
      ap (λ b. (13, b) ∷ []) (is_held_is declarations k past S l less)
  op_rules_is who (TryFail l) runs is = refl
  op_rules_is who (OnceBegin p) runs is = let less : p < counts_in k Kind.Once = grind (arith, nat_tests) in
      ap (λ b. (17, b) ∷ []) (is_begun_is declarations k past S p less)
  op_rules_is who (OnceEnd p) runs is = ap (λ o. (18, not (gives o p)) ∷ []) (innermost_is declarations k past S who runs)
  op_rules_is who (OnceDone p) runs is = let less : p < counts_in k Kind.Once = grind (arith, nat_tests) in ap (λ b. (19, not b) ∷ []) (S.ended p less)
  op_rules_is who (Fault cause) runs is = ap (λ b. (23, not b) ∷ []) (cause_holds_is cause (search rules))

  -- the least broken rule, from the tables
  pub broken_is : (e : Event) → IsInRange (counts_in k) e → broken (capacity_of declarations) past e ≡ broken_in k e
  broken_is e within = λ i. least_broken ((1, S.over i) ∷ (2, not (actors_run_is e within i)) ∷ op_rules_is e.who e.op within.0 within.1 i)

  -- behind an event that breaks no rule the tables still answer
  pub stands_after : (e : Event) → IsInRange (counts_in k) e → broken_in k e ≡ None → StandsFor declarations (after k e) (past ++ e ∷ [])
  stands_after e within none = record {
    legal = legal_push (capacity_of declarations) past e S.legal (broken_is e within ∙ none);
    len = length-append past (e ∷ []) ∙ ap (λ n. n + 1) S.len;
    counts = counts ∙ S.counts;
    capacity = λ c less. S.capacity c (before Kind.Chan c less) ∙ ap (λ (caps : List ℕ). slice_index_or caps c 0) (sym (capacities_same k.channels e.op));
    over = over_push past e ∙ ap (λ b. b || (((e.who == 0) && is_exit e.op) || is_fault e.op)) S.over;
    started = λ g less.
        let old = before Kind.Goroutine g less in
        started_push g past e ∙ ap (λ b. b || starts g e.op) (S.started g old) ∙ started_step k.goroutines e.who e.op g old;
    exited = λ g less.
        let old = before Kind.Goroutine g less in
        has_exited_push g past e ∙ ap (λ b. b || ((e.who == g) && is_exit e.op)) (S.exited g old)
        ∙ exited_step k.goroutines e.who e.op g (row g S.square.exited old);
    values = λ x less.
        let old = before Kind.Var x less in
        last_value_push x past e ∙ ap (unwrap_or (written x e.op)) (S.values x old) ∙ values_step k.values e.op x old;
    closed = λ c less.
        let old = before Kind.Chan c less in
        is_closed_push c past e ∙ ap (λ b. b || closes c e.op) (S.closed c old) ∙ closed_step k.channels e.op c (row c S.square.closed old);
    queue = λ c less.
        let old = before Kind.Chan c less in
        waiting_push c past e (S.received c old)
        ∙ ap (λ vs. drop (as_number (receives c e.op)) (vs ++ option_to_list (sent c e.op))) (S.queue c old)
        ∙ queue_step k.channels e.op c (row c S.square.queues old);
    received = λ c less.
        let old = before Kind.Chan c less in
        rw (count_push (receives c) past e, count_push (sends c) past e)
        (received_step k e.who e.op c _ _ kept (S.received c old) (buffered_is declarations k past S c old));
    held = λ l less.
        let old = before Kind.Lock l less in
        rw (count_push (locks l) past e, count_push (unlocks l) past e) (held_step k e.who e.op l _ _ old kept (S.held l old));
    readers = λ l less.
        let old = before Kind.Lock l less in
        rw (count_push (rlocks l) past e, count_push (runlocks l) past e) (readers_step k e.who e.op l _ _ (row l S.square.readers old) kept (S.readers l old));
    begun = λ p less.
        let old = before Kind.Once p less in
        rw (count_push (once_begins p) past e) (begun_step k e.who e.op p _ old kept (S.begun p old));
    ended = λ p less.
        let old = before Kind.Once p less in
        has_push (once_ends p) past e ∙ ap (λ b. b || once_ends p e.op) (S.ended p old) ∙ ended_step k.onces e.op p (row p S.square.ended old);
    ended_begun = λ p less.
        let old = before Kind.Once p less in
        ended_begun_step k.onces e.op p old (row p S.square.ended old) (S.ended_begun p old) (ends_begun p old e.op kept);
    stack = λ g less. stack_step declarations k past S g (before Kind.Goroutine g less) e within.0 within.1 kept;
    square = square_after k e S.square;
  }
    where
      kept : NoneBroken (op_rules_in k e.who e.op)
      kept = (none_broken (rules_in k e) none).1.1

      -- what ends began
      ends_begun : (p : ℕ) → p < counts_in k Kind.Once → (o : Op) → NoneBroken (op_rules_in k e.who o) → IsTrue (once_ends p o) → IsTrue (begun_in k.onces p)
      ends_begun p less (OnceEnd q) kept is =
          let inner = innermost_in k.goroutines e.who in
          let here : gives inner p ≡ true = ap (gives inner) (sym (eqb-true q p is)) ∙ not-false (gives inner q) kept.0 in
          innermost_began declarations k past S e.who p within.0 less here
      ends_begun p less _ kept is = cc

      counts : counts_in (after k e) ≡ counts_in k
      counts = counts_after k e

      -- what is in range behind the event was before
      before : (kind : Kind) (n : ℕ) → n < counts_in (after k e) kind → n < counts_in k kind
      before kind n less = subst (λ m. n < m) (λ i. counts i kind) less

      -- what is in range of one column is of another
      row : (n : ℕ) {a b : ℕ} → a ≡ b → n < b → n < a
      row n same less = subst (λ m. n < m) (sym same) less
