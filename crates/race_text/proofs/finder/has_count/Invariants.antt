use Rattle.std.proofs.Common.{◌≡◌, ◌+◌, length}
use Rattle.race_text.specs.Words.{parts_left}
use Rattle.race_text.proofs.finder.has_count.Given as goal

abbrev pub invariant-loop-i : goal.invariant-loop-i
invariant-loop-i l = length (parts_left 32 l.left) + l._i ≡ length (parts_left 32 l.fn.rest)
