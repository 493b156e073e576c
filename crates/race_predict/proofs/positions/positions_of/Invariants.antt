-- The positions of the events before the index, and the counts behind them.
use Rattle.std.proofs.Common.{◌≡◌, length, take}
use Rattle.race_records.specs.{declared.kind.Kind.Kind, Declarations.counts_of}
use Rattle.race_predict.specs.Fronts.{Counts, ArePositions}
use Rattle.race_predict.proofs.positions.positions_of.Given as goal

abbrev pub invariant-loop-at : goal.invariant-loop-at
invariant-loop-at g l = record {
  rows : length l.counts.items ≡ counts_of l.trace.decls.declarations Kind.Goroutine;
  counts : Counts l.counts.items (take l.at l.trace.events);
  positions : ArePositions l.trace.events l.at l.positions.items;
}
