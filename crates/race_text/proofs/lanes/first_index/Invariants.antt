use Rattle.std.proofs.Common.{◌==◌, ◌-◌, ◌≤◌, length}
use Rattle.race_text.proofs.LaneLemmas.{FailsBefore}
use Rattle.race_text.proofs.lanes.first_index.Given as goal

abbrev pub invariant-loop-at : goal.invariant-loop-at
invariant-loop-at l = (l.at ≤ length l.bytes) × FailsBefore (λ b. b == l.byte) l.bytes 0 l.at

abbrev pub decreases-loop-at : goal.decreases-loop-at
decreases-loop-at l = length l.bytes - l.at
