use Rattle.std.proofs.Common.{ℕ, ◌<◌, Option}
use Rattle.race_requests.specs.{declared.request.Answer.Answer, Table.{done_by, IsRow}}
use Rattle.race_requests.proofs.table.can_make.Given as goal

-- no branch before has a row
abbrev pub invariant-loop-branch : goal.invariant-loop-branch
invariant-loop-branch l = (k : ℕ) (told : Option Answer) → k < l.branch → IsRow l.ask k (done_by l.who l.op) told → ⊥
