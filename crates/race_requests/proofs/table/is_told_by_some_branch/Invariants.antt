use Rattle.std.proofs.Common.{ℕ, ◌<◌}
use Rattle.race_requests.specs.Table.{done_by, IsRow}
use Rattle.race_requests.proofs.table.is_told_by_some_branch.Given as goal

-- no branch before has such a row
abbrev pub invariant-loop-branch : goal.invariant-loop-branch
invariant-loop-branch l = (k : ℕ) → k < l.branch → IsRow l.step.asked.ask k (done_by l.who l.op) l.step.told → ⊥
