use Rattle.race_edges.proofs.JudgeSteps.{AreTables}
use Rattle.race_edges.proofs.judge.races_in.Given as goal

abbrev pub invariant-loop-at : goal.invariant-loop-at
invariant-loop-at g l = AreTables l.trace l.at l.table l.found
