use Rattle.std.proofs.Common.{◌-◌, ◌≤◌, length, not}
use Rattle.race_records.specs.Name.{is_place_byte}
use Rattle.race_text.proofs.LaneLemmas.{FailsBefore}
use Rattle.race_text.proofs.lanes.first_unseen.Given as goal

abbrev pub invariant-loop-at : goal.invariant-loop-at
invariant-loop-at l = (l.at ≤ length l.bytes) × FailsBefore (λ b. not (is_place_byte b)) l.bytes 0 l.at

abbrev pub decreases-loop-at : goal.decreases-loop-at
decreases-loop-at l = length l.bytes - l.at
