-- The text of each cause of a text fault. The text of a trace has neither of the last two: BadBlock is of the text of a
-- program alone, and want of memory is no fault of a text.
use Rattle.std.specs.Prelude.{ℕ, List, codes}
use Rattle.race_text.specs.declared.cause.TextCause.{TextCause}

-- the cause in two or three words
abbrev pub cause_text : TextCause → List ℕ
cause_text TextCause.BadHeader = codes "bad header"
cause_text TextCause.NoNewline = codes "no newline"
cause_text TextCause.BadByte = codes "bad byte"
cause_text TextCause.UnknownWord = codes "unknown word"
cause_text TextCause.WrongCount = codes "wrong count"
cause_text TextCause.BadName = codes "bad name"
cause_text TextCause.Taken = codes "taken"
cause_text TextCause.Unknown = codes "unknown name"
cause_text TextCause.WrongKind = codes "wrong kind"
cause_text TextCause.BadNumber = codes "bad number"
cause_text TextCause.TooMany = codes "too many"
cause_text TextCause.LateDeclaration = codes "late declaration"
cause_text TextCause.BadBlock = codes "bad block"
cause_text TextCause.OutOfMemory = codes "out of memory"
