use Rattle.std.proofs.Common.{◌-◌}
use Rattle.race_text.proofs.LaneLemmas.{AreSameBefore}
use Rattle.race_text.proofs.lanes.is_same.Given as goal

abbrev pub invariant-loop-at : goal.invariant-loop-at
invariant-loop-at l = AreSameBefore l.left l.right l.at

abbrev pub decreases-loop-at : goal.decreases-loop-at
decreases-loop-at l = l.last - l.at
