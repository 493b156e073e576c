-- Accesses of variables.
use Rattle.std.specs.Prelude.{ℕ, Bool, true, false, Option, Some, None}
use Rattle.race_records.specs.declared.event.Op.{Op, TheVariants.{Read, Write}}

-- the variable that the operation accesses
abbrev pub accessed : Op → Option ℕ
accessed (Read x v) = Some x
accessed (Write x v) = Some x
accessed _ = None

-- whether it is a write
abbrev pub is_write : Op → Bool
is_write (Write x v) = true
is_write _ = false
