use Rattle.std.{proofs.Common.{◌≡◌, ℕ, ◌<◌, length}, specs.List.slice_index_or}
use Rattle.race_records.specs.Declarations.{capacity_of}
use Rattle.race_legal.proofs.channels.capacities.Given as goal

abbrev pub invariant-loop-chan : goal.invariant-loop-chan
invariant-loop-chan g l = record {
  len : length l.capacities.items ≡ l.chan;
  each : (c : ℕ) → c < l.chan → slice_index_or l.capacities.items c 0 ≡ capacity_of l.decls.declarations c;
}
