use Rattle.std.proofs.Common.{length}
use Rattle.race_explain.proofs.header.looked_up.Given as goal

abbrev pub decreases-loop-table : goal.decreases-loop-table
decreases-loop-table l = length l.table
