-- How the walk begins, and what it comes to.
use Rattle.std.proofs.Common.{ℕ, ◌≡◌, ◌<◌, ◌≤◌, ◌+◌, ◌^◌, ◌&&◌, Bool, Result, Ok, Err, true, false, List, All, sym, ap, ◌∙◌, arith}
use Rattle.std.proofs.lemmas.{Bool.{and_parts, leb-true, false≢true}, List.Elements.{All-weaker}}
use Rattle.std.specs.Prelude.{nat_le, IsErrAnd}
use Rattle.race_records.specs.declared.trace.TheConstants.{MAX_EVENTS}
use Rattle.race_record.specs.Noting.{HaveNext}
use Rattle.race_explore.specs.declared.{walk.TheConstants.MAX_RUNS, fault.ExploreFault.ExploreFault}
use Rattle.race_script.specs.Program.{ProgramState}
use Rattle.race_explore.specs.{declared.{explored.Explored.Explored, orders.Orders.Orders}, Walk.{are_explore_limits, IsWalked, IsExplored}}

-- a number comes after each pick
pub few_next : (n : ℕ) (picks : List ℕ) → n < MAX_RUNS → All (λ p. p ≤ n) picks → HaveNext picks
few_next n picks few all = All-weaker (λ p. p ≤ n) (λ p. p + 1 < 2 ^ 64) (λ p below. omega (arith, few, below)) picks all

-- there is room for one run more
pub room_for_one : (limit most run made : ℕ) → are_explore_limits limit most ≡ true → made ≡ run → run < most → made < MAX_RUNS
room_for_one limit most run made are is less =
    let (of_events, of_runs) = and_parts (nat_le 1 limit && nat_le limit MAX_EVENTS) (nat_le 1 most && nat_le most MAX_RUNS) are in
    let (some, few) = and_parts (nat_le 1 most) (nat_le most MAX_RUNS) of_runs in
    let within = leb-true most MAX_RUNS few in
    omega (arith, within, is, less)

-- what is promised of a fault holds of it once it is passed on
pub passed_on : {X : Type 0} {P : Type 0} (r : Result X ExploreFault) (e why : ExploreFault) → IsErrAnd r (λ f. f ≡ e)
    → (◌≡◌ {A = Result Bool ExploreFault} (Err e) (Err why) → P) → r ≡ Err why → P
passed_on (Ok x) e why so has is = absurd so
passed_on (Err f) e why so has is = let same : f ≡ why = cc is in has (ap (λ (x : ExploreFault). Err x) (sym so ∙ same))

-- the walk stopped after as many runs as were wanted, of which there is one at least
pub explored_in_part : {A : Type 0} (program : ProgramState) (limit most : ℕ) (orders : Orders) (picks : List ℕ) (e : Explored A)
    → are_explore_limits limit most ≡ true → IsWalked program limit orders picks e → e.made ≡ most → e.whole ≡ false → IsExplored program limit most orders e
explored_in_part program limit most orders picks e are walked all part = record {
  seen = walked.seen;
  looked = walked.looked;
  counts = walked.counts;
  racy = walked.racy;
  bad = walked.bad;
  none_twice = walked.none_twice;
  wanted = walked.wanted;
  skipped = walked.skipped;
  whole = λ whole. absurd (false≢true (sym part ∙ whole));
  stopped = λ _. (all, walked.more (omega (arith, all, some)));
}
  where
    some : 1 ≤ most
    some =
        let (of_events, of_runs) = and_parts (nat_le 1 limit && nat_le limit MAX_EVENTS) (nat_le 1 most && nat_le most MAX_RUNS) are in
        leb-true 1 most (and_parts (nat_le 1 most) (nat_le most MAX_RUNS) of_runs).0
