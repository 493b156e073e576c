use Rattle.std.proofs.Common.{ℕ, ◌≡◌, ◌<◌, Some, slice_get}
use Rattle.race_explore.specs.declared.stuck.BadEnd.{BadEnd}
use Rattle.race_explore.specs.Ends.{IsOfEnd}
use Rattle.race_explore.proofs.places.place_of_end.Given as goal

-- it stands nowhere among the first ones
abbrev pub invariant-loop-place : goal.invariant-loop-place
invariant-loop-place g l = (k : ℕ) (b : BadEnd g.row.A.Denot) → k < l.place → slice_get l.bad k ≡ Some b → IsOfEnd l.end l.standing b → ⊥
