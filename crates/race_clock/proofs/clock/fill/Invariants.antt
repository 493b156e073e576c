use Rattle.std.proofs.Common.{◌≡◌, ◌-◌, ◌≤◌, max, length}
use Rattle.race_clock.specs.ClockState.{padded}
use Rattle.race_clock.proofs.clock.fill.Given as goal

abbrev pub invariant-loop-zeros : goal.invariant-loop-zeros
invariant-loop-zeros g l = (l.counts.items ≡ padded l.initial.counts.items (length l.counts.items))
    × (length l.counts.items ≤ max l.to (length l.initial.counts.items))
    × (l.initial.counts.capacity ≤ l.counts.capacity)

abbrev pub decreases-loop-zeros : goal.decreases-loop-zeros
decreases-loop-zeros g l = l.to - length l.counts.items
