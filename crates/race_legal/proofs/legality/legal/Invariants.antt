use Rattle.std.proofs.Common.{take}
use Rattle.race_legal.specs.StandsFor.{StandsFor}
use Rattle.race_legal.proofs.legality.legal.Given as goal

abbrev pub invariant-loop-at : goal.invariant-loop-at
invariant-loop-at g l = record {
  stands : StandsFor l.trace.decls.declarations l.replay (take l.at l.trace.events);
}
