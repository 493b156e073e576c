use Rattle.std.proofs.Common.{◌≡◌, List, length}
use Rattle.race_records.specs.{Tables.Row, Shorts.AreNoted}
use Rattle.race_records.proofs.shorts.put_each.Given as goal

-- there are as many slots, and what was noted still is
abbrev pub invariant-loop-at : goal.invariant-loop-at
invariant-loop-at g l =
    (length l.slots.items ≡ length l.initial.slots.items)
    × ((rows : List Row) → AreNoted rows l.from → AreNoted rows l.initial.slots.items → AreNoted rows l.slots.items)
