-- What was counted, and what is left.
use Rattle.std.proofs.Common.{◌≡◌, ◌+◌, length, drop, sum_by}
use Rattle.race_script.proofs.reader.count_lines.Given as goal

abbrev pub invariant-loop-body : goal.invariant-loop-body
invariant-loop-body g l = l.count + sum_by (λ body. 1 + length body.items) (drop l.body-index l.bodies) ≡ sum_by (λ body. 1 + length body.items) l.bodies
