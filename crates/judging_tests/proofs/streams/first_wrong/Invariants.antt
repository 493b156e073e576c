use Rattle.std.proofs.Common.{◌-◌}
use Rattle.race_text.specs.Stream.{StandsForSome}
use Rattle.judging_tests.proofs.streams.first_wrong.Given as goal

abbrev pub invariant-loop-at : goal.invariant-loop-at
invariant-loop-at l = record {
  some : StandsForSome l.stream;
}

abbrev pub decreases-loop-at : goal.decreases-loop-at
decreases-loop-at l = 8 - l.at
