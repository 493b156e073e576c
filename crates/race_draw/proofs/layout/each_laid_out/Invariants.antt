use Rattle.std.proofs.Common.{◌≡◌, ℕ, All, Some, length, slice_get}
use Rattle.race_verdict.specs.declared.races.Race.{Race}
use Rattle.race_draw.specs.{Layout.{LayoutState, IsLayoutOf}, Text.CanBeDrawn}
use Rattle.race_draw.proofs.layout.each_laid_out.Given as goal

-- the races before the index are laid out
abbrev pub invariant-loop-race : goal.invariant-loop-race
invariant-loop-race g l = record {
  as_many : length l.layouts.items ≡ l.race-index;
  each : (k : ℕ) (r : Race) (x : LayoutState) → slice_get l.races k ≡ Some r → slice_get l.layouts.items k ≡ Some x
      → IsLayoutOf l.trace l.edges r x;
  drawable : All (CanBeDrawn l.trace) l.layouts.items;
}
