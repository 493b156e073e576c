-- Of the causes of a line the least, in the order in which a line is tested, and what words say together.
use Rattle.std.specs.Prelude.{ℕ, nat_le, if◌then◌else◌, Option, Some, None, Result, Ok, Err}
use Rattle.race_text.specs.declared.cause.TextCause.{TextCause}

-- the place of a cause in the order in which a line is tested. Two never come of a trace's line: a block is of a program's
-- text, and memory is told by calls alone
abbrev pub rank : TextCause → ℕ
rank TextCause.BadHeader = 1
rank TextCause.NoNewline = 2
rank TextCause.BadByte = 3
rank TextCause.UnknownWord = 4
rank TextCause.WrongCount = 5
rank TextCause.BadName = 6
rank TextCause.Taken = 7
rank TextCause.Unknown = 8
rank TextCause.WrongKind = 9
rank TextCause.BadNumber = 10
rank TextCause.TooMany = 11
rank TextCause.LateDeclaration = 12
rank TextCause.BadBlock = 13
rank TextCause.OutOfMemory = 14

-- of two causes the lesser
abbrev pub least : TextCause → TextCause → TextCause
least a b = if nat_le (rank a) (rank b) then a else b

-- of two causes that may hold, the lesser
abbrev pub lesser : Option TextCause → Option TextCause → Option TextCause
lesser None b = b
lesser (Some a) None = Some a
lesser (Some a) (Some b) = Some (least a b)

-- what is made of what a word says, or the cause that it says nothing
abbrev pub then_says : {A B : Type 0} → (A → Result B TextCause) → Result A TextCause → Result B TextCause
then_says f (Ok a) = f a
then_says f (Err cause) = Err cause

abbrev pub says_by : {A B : Type 0} → (A → B) → Result A TextCause → Result B TextCause
says_by f (Ok a) = Ok (f a)
says_by f (Err cause) = Err cause

-- what is made of what two words say, or the lesser of their causes
abbrev pub both_say : {A B C : Type 0} → (A → B → Result C TextCause) → Result A TextCause → Result B TextCause → Result C TextCause
both_say f (Ok a) (Ok b) = f a b
both_say f (Ok a) (Err cause) = Err cause
both_say f (Err cause) (Ok b) = Err cause
both_say f (Err first) (Err second) = Err (least first second)
