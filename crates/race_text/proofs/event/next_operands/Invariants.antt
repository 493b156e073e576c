use Rattle.std.proofs.Common.{◌≡◌, ◌+◌, ◌≤◌, [], length}
use Rattle.arrayvec.specs.ArrayVec.{array_vec_len}
use Rattle.race_text.specs.{Words.parts_left, Reading.operands_on}
use Rattle.race_text.proofs.event.next_operands.Given as goal

abbrev pub invariant-loop-kinds : goal.invariant-loop-kinds
invariant-loop-kinds g l =
    (operands_on l.decls.declarations l.operands.items l.kinds (parts_left 32 l.left)
    ≡ operands_on l.decls.declarations [] l.initial.kinds (parts_left 32 l.fn.rest))
    × (array_vec_len l.operands + length l.kinds ≤ 3)

abbrev pub decreases-loop-kinds : goal.decreases-loop-kinds
decreases-loop-kinds g l = length l.kinds
