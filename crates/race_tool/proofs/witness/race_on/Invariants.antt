use Rattle.std.proofs.Common.{◌≡◌, ◌≢◌, ℕ, ◌<◌, Some, slice_get}
use Rattle.race_verdict.specs.declared.races.Race.{Race}
use Rattle.race_tool.proofs.witness.race_on.Given as goal

-- none of the races before the index is on the variable
abbrev pub invariant-loop-race : goal.invariant-loop-race
invariant-loop-race g l = record {
  none : (k : ℕ) (r : Race) → k < l.race-index → slice_get l.races k ≡ Some r → r.var ≢ l.var;
}
