use Rattle.std.proofs.Common.{◌≡◌, false, replicate}
use Rattle.race_edges.proofs.table.Table.new.Given as goal

abbrev pub invariant-loop-count : goal.invariant-loop-count
invariant-loop-count g l = l.rows.items ≡ replicate l._count (replicate l.events false)
