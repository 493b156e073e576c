-- The stamper stands for the events up to the index.
use Rattle.std.proofs.Common.{take}
use Rattle.race_clock.specs.StandsFor.{StandsFor}
use Rattle.growth_tests.proofs.stamps.step_each.Given as goal

abbrev pub invariant-loop-at : goal.invariant-loop-at
invariant-loop-at l = record { stands : StandsFor l.trace.decls.declarations l.stamper (take l.at l.trace.events) }
