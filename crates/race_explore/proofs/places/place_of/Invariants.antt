use Rattle.std.proofs.Common.{ℕ, ◌≡◌, ◌<◌, Some, slice_get}
use Rattle.race_explore.specs.declared.explored.RacyVariable.{RacyVariable}
use Rattle.race_explore.proofs.places.place_of.Given as goal

-- it stands nowhere among the first ones
abbrev pub invariant-loop-place : goal.invariant-loop-place
invariant-loop-place g l = (k : ℕ) (v : RacyVariable g.row.A.Denot) → k < l.place → slice_get l.racy k ≡ Some v → v.race.var ≡ l.var → ⊥
