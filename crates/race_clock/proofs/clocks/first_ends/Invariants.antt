use Rattle.std.proofs.Common.{◌≡◌, [], replicate}
use Rattle.race_clock.proofs.clocks.first_ends.Given as goal

abbrev pub invariant-loop : goal.invariant-loop
invariant-loop g l = l.clocks.items ≡ replicate l.counter []
