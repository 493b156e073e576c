use Rattle.std.proofs.Common.{◌≡◌, length}
use Rattle.race_edges.specs.TableState.{joined}
use Rattle.race_edges.proofs.table.Row.join.Given as goal

abbrev pub invariant-loop-index : goal.invariant-loop-index
invariant-loop-index g l = record { row : l.self ≡ joined l.initial.self l.other l.index; len : length l.self ≡ length l.initial.self }
