use Rattle.std.proofs.Common.{◌≡◌, false, take}
use Rattle.race_clock.specs.ClockState.{joined}
use Rattle.race_clock.proofs.clock.covers_each.Given as goal

abbrev pub invariant-loop-index : goal.invariant-loop-index
invariant-loop-index l = l.below ≡ false → joined l.counts (take l.index l.other) ≡ l.counts
