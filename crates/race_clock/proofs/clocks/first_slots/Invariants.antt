use Rattle.std.proofs.Common.{◌≡◌}
use Rattle.race_clock.specs.ClocksState as spec
use Rattle.race_clock.proofs.clocks.first_slots.Given as goal

abbrev pub invariant-loop-who : goal.invariant-loop-who
invariant-loop-who g l = l.slots.items ≡ spec.first_slots l.who
