use Rattle.race_explore.proofs.ScriptLemmas.{AreScripts}
use Rattle.race_explore.proofs.walked.scripts.Given as goal

-- the scripts of so many goroutines are made
abbrev pub invariant-loop-goroutine : goal.invariant-loop-goroutine
invariant-loop-goroutine g l = record {
  made : AreScripts l.program.bodies l.goroutine l.scripts.items;
}
