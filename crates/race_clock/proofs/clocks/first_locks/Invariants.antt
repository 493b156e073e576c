use Rattle.std.proofs.Common.{◌≡◌, replicate}
use Rattle.race_clock.specs.ClocksState.{no_lock}
use Rattle.race_clock.proofs.clocks.first_locks.Given as goal

abbrev pub invariant-loop : goal.invariant-loop
invariant-loop g l = l.clocks.items ≡ replicate l.counter no_lock
