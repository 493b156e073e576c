-- What is owed where a line isn't taken. A cause is told without memory, so want of memory hides none.
use Rattle.std.specs.Prelude.{◌≡◌, Option, Some, None}
use Rattle.race_text.specs.declared.cause.{TextCause.TextCause, TextFault.TextFault}

-- what is told of the line, by its least cause: the cause, and want of memory only where none holds
abbrev pub owed : Option TextCause → TextCause
owed None = TextCause.OutOfMemory
owed (Some cause) = cause

-- a fault of the line that is told is the one that is told, so want of memory stands at a line that has none
abbrev pub HidesNone : TextFault → Option TextFault → Type 0
HidesNone told fault = (f : TextFault) → fault ≡ Some f → f.line ≡ told.line → f ≡ told
