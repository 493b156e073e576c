-- The events up to the index are accepted.
use Rattle.std.proofs.Common.{take}
use Rattle.race_legal.specs.StandsFor.{StandsFor}
use Rattle.running_tests.proofs.hub.board.replayed.Given as goal

abbrev pub invariant-loop-at : goal.invariant-loop-at
invariant-loop-at l = record {
  stands : StandsFor l.trace.decls.declarations l.replay (take l.at l.trace.events);
}
