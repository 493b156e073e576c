-- The tables of goroutines and of values, one event on: each changes where its word does.
use Rattle.std.proofs.Common.{◌≡◌, ℕ, ◌<◌, ◌==◌, ◌||◌, ◌&&◌, Bool, true, false, List, length, Some, None, unwrap_or}
use Rattle.std.proofs.Common.{get_or, set, if◌then◌else◌, refl, sym, arith, inl, inr, ne_eqb, eq-eqb}
use Rattle.std.proofs.{lemmas.Bool.cases_eq}
use Rattle.std.proofs.{lemmas.List.{get_or-set_same, get_or-set_other}, Math.Bool.{and-true, or-false}}
use Rattle.race_records.specs.declared.event.Op.{Op, TheVariants.{Go, Exit, Write}}
use Rattle.race_model.specs.{Events.{starts, is_exit}, State.written}
use Rattle.race_legal.specs.ReplayState.{GoroutinesState, started_in, exited_in}
use Rattle.race_legal.specs.After.{goroutines_after, values_after}

-- what stands at a place after a write to a place
pub get_or-set : {X : Type 0} (xs : List X) (p l : ℕ) (y d : X) → l < length xs → get_or (set xs p y) l d ≡ (if p == l then y else get_or xs l d)
get_or-set xs p l y d less = elim (cases_eq p l) [
  | inl same ↦
      let here : get_or (set xs l y) l d ≡ y = get_or-set_same xs l y d less in
      rw (same, eq-eqb l l refl) here
  | inr differ ↦ rw (ne_eqb p l differ) (get_or-set_other xs p l y d (λ e. differ (sym e)))
]

-- a test or what was so before
or_if : (old b : Bool) → (old || b) ≡ (if b then true else old)
or_if old b = grind arith

-- a Go starts its goroutine, and nothing else does
pub started_step : (t : GoroutinesState) (who : ℕ) (o : Op) (g : ℕ) → g < length t.started
    → (started_in t g || starts g o) ≡ started_in (goroutines_after t who o) g
started_step t who (Go h) g less = rw (get_or-set t.started h g true false less) (or_if (started_in t g) (h == g))
started_step t who _ g less = or-false (started_in t g)

-- what is no exit adds nothing
none_more : (old b : Bool) → (old || (b && false)) ≡ old
none_more old b = grind arith

-- an Exit ends its goroutine, and nothing else does
pub exited_step : (t : GoroutinesState) (who : ℕ) (o : Op) (g : ℕ) → g < length t.exited
    → (exited_in t g || ((who == g) && is_exit o)) ≡ exited_in (goroutines_after t who o) g
exited_step t who Exit g less = rw (get_or-set t.exited who g true false less, and-true) (or_if (exited_in t g) (who == g))
exited_step t who _ g less = none_more (exited_in t g) (who == g)

given_or : (b : Bool) (v old : ℕ) → unwrap_or (if b then Some v else None) old ≡ (if b then v else old)
given_or b v old = grind arith

-- a Write gives its variable a value, and nothing else does
pub values_step : (values : List ℕ) (o : Op) (x : ℕ) → x < length values → unwrap_or (written x o) (get_or values x 0) ≡ get_or (values_after values o) x 0
values_step values (Write y v) x less = rw (get_or-set values y x v 0 less) (given_or (y == x) v (get_or values x 0))
values_step values _ x less = refl
