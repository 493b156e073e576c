-- A text that is fed in pieces: which fault its ended lines have, and what a reader of lines says of it.
use Rattle.std.specs.{Prelude.{◌≡◌, ◌≢◌, ℕ, ◌+◌, List, [], ◌∷◌, ◌++◌, length, Option, Some, None}, Borrow.Bor}
use Rattle.std.specs.List.{flat_map}
use Rattle.race_text.specs.{declared.{cause.{TextCause.TextCause, TextFault.TextFault}, fed.Fed.Fed}, Words.parts_of}
use Rattle.race_text.specs.{Text.ended, Lines.{Causes, or_later, fault_after, first_fault, IsLineOf, IsNoneBefore}}
use Rattle.race_text.specs.{Owed.{owed, HidesNone}, Common.{line_in, EndsLine}}
use Rattle.race_text.specs.Grammar.{StandsForSome, ForEachLines, Takes}

-- a reader of lines: those that it took, the bytes behind them, and the fault that it told
pub record LinesState : Type 0 where
  pub lines : List (List ℕ)
  pub part : List ℕ
  pub fault : Option TextFault

-- nothing was told yet, and no part of a line is left
pub record IsBetweenLines (k : LinesState) : Type 0 where
  pub fine : k.fault ≡ None
  pub none : k.part ≡ []

-- no newline is among the bytes
abbrev pub IsUnended : List ℕ → Type 0
IsUnended bytes = parts_of bytes ≡ bytes ∷ []

-- memory is refused behind the lines
pub record TellsOfMemory (told : TextFault) (lines : List (List ℕ)) : Type 0 where
  pub number : told.line ≡ length lines + 1
  pub memory : told.cause ≡ TextCause.OutOfMemory

-- a grammar stands for some lines, and no newline is among the bytes behind them
pub record IsBetween (Stands : List (List ℕ) → Type 0) (part : List ℕ) : Type 0 where
  pub some : StandsForSome Stands
  pub unended : IsUnended part

-- the same of a reader by a grammar, until a fault is told
abbrev pub IsReady : {G A : Type 0} → (G → List (List ℕ) → Type 0) → Fed G A → Type 0
IsReady Stands k = k.fault ≡ None → IsBetween (Stands k.lines.reader) k.lines.part.items

module _ (causes : Causes) where
  -- the first fault of the parts that stand after these lines, but for the last part, which no newline ends
  unfoldable pub ended_after : List (List ℕ) → List (List ℕ) → Option TextFault
  ended_after before [] = None
  ended_after before (last ∷ []) = None
  ended_after before (line ∷ next ∷ others) =
      or_later (length before + 1) (causes.line before line) (ended_after (before ++ line ∷ []) (next ∷ others))

  -- the first fault of the lines that a newline ends
  unfoldable pub ended_fault : List ℕ → Option TextFault
  ended_fault bytes = ended_after [] (parts_of bytes)

  -- of the bytes these lines are taken, and these bytes are left: the first fault of the whole is that of what is left
  pub record IsTaken (bytes : List ℕ) (lines : List (List ℕ)) (left : List ℕ) : Type 0 where
    pub bytes_are : flat_map ended lines ++ left ≡ bytes
    pub fault : fault_after causes lines (parts_of left) ≡ first_fault causes bytes
    pub ended_fault : ended_after lines (parts_of left) ≡ ended_fault bytes
    pub all : length lines + length (parts_of left) ≡ length (parts_of bytes)

  -- the fault is the first one of the lines that are ended, and want of memory stands at a line before which there is none
  pub record IsTold (bytes : List ℕ) (told : TextFault) : Type 0 where
    pub ended : told.cause ≢ TextCause.OutOfMemory → ended_fault bytes ≡ Some told
    pub whole : told.cause ≢ TextCause.OutOfMemory → first_fault causes bytes ≡ Some told
    pub none_before : IsNoneBefore told.line (first_fault causes bytes)
    pub none_ended_before : IsNoneBefore told.line (ended_fault bytes)
    pub line : IsLineOf bytes told.line

  -- the reader stands for the bytes that it was fed: it has taken their lines, or told their fault, and so it is whatever follows
  pub record StandsFor (k : LinesState) (fed : List ℕ) : Type 0 where
    pub taken : k.fault ≡ None → (more : List ℕ) → IsTaken (fed ++ more) k.lines (k.part ++ more)
    pub told : (f : TextFault) → k.fault ≡ Some f → (more : List ℕ) → IsTold (fed ++ more) f

  -- it holds of the bytes for which the reader stands
  abbrev pub ForEachFed : LinesState → (List ℕ → Type 0) → Type 0
  ForEachFed k Holds = (fed : List ℕ) → StandsFor k fed → Holds fed

  -- whichever bytes it stood for, it stands for these with the piece behind them
  abbrev pub GoesOnBy : LinesState → LinesState → List ℕ → Type 0
  GoesOnBy old new piece = ForEachFed old (λ fed. StandsFor new (fed ++ piece))

  -- the same by lines for which a grammar stands
  pub record TakesSome (Stands : List (List ℕ) → Type 0) (bytes left : List ℕ) : Type 0 where
    pub lines : List (List ℕ)
    pub stands : Stands lines
    pub taken : IsTaken bytes lines left

  -- a reader by a grammar stands for the bytes that it was fed, whatever the grammar kept of their lines
  pub record IsFed {G A : Type 0} (Stands : G → List (List ℕ) → Type 0) (k : Fed G A) (fed : List ℕ) : Type 0 where
    pub taken : k.fault ≡ None → (more : List ℕ) → TakesSome (Stands k.lines.reader) (fed ++ more) (k.lines.part.items ++ more)
    pub told : (f : TextFault) → k.fault ≡ Some f → (more : List ℕ) → IsTold (fed ++ more) f

  -- it holds of the bytes that it was fed, whichever they are
  abbrev pub ForEachFedTo : {G A : Type 0} → (G → List (List ℕ) → Type 0) → Fed G A → (List ℕ → Type 0) → Type 0
  ForEachFedTo Stands k Holds = (fed : List ℕ) → IsFed Stands k fed → Holds fed

  -- these bytes are taken behind the lines, and a part of them is left
  abbrev pub TakesBytes : (List (List ℕ) → Type 0) → List ℕ → (List (List ℕ) → Type 0) → List ℕ → Type 0
  TakesBytes Stood bytes Stands part = (whole more : List ℕ) → TakesSome Stood whole (bytes ++ more) → TakesSome Stands whole (part ++ more)

  -- lines in front of the bytes are taken, whatever follows them, and these bytes are left
  pub record TakesFront (Stood : List (List ℕ) → Type 0) (bytes : List ℕ) (Stands : List (List ℕ) → Type 0) (left : List ℕ) : Type 0 where
    pub front : List ℕ
    pub bytes_are : front ++ left ≡ bytes
    pub taken : TakesBytes Stood front Stands []

  -- or a fault of them is told
  abbrev pub TellsOfBytes : (List (List ℕ) → Type 0) → List ℕ → TextFault → Type 0
  TellsOfBytes Stood bytes told = (whole more : List ℕ) → TakesSome Stood whole (bytes ++ more) → IsTold whole told

  -- where these bytes are all that is left, no fault of a line that ends in them is hidden
  abbrev pub HidesNoneOf : (List (List ℕ) → Type 0) → List ℕ → TextFault → Type 0
  HidesNoneOf Stood bytes told = (whole : List ℕ) → TakesSome Stood whole bytes → HidesNone told (ended_fault whole)

  -- both
  pub record TellsOfWhole (Stood : List (List ℕ) → Type 0) (bytes : List ℕ) (fault : TextFault) : Type 0 where
    pub told : TellsOfBytes Stood bytes fault
    pub owed : HidesNoneOf Stood bytes fault

  -- what is owed of a line behind these, with its number
  pub record TellsOfLine (line : List ℕ) (told : TextFault) (lines : List (List ℕ)) : Type 0 where
    pub number : told.line ≡ length lines + 1
    pub least : told.cause ≡ owed (causes.line lines line)

  -- the line in front of the bytes is taken, where a newline ends it, and else nothing is
  abbrev pub TakesNext : (List (List ℕ) → Type 0) → List ℕ → Option (Bor (List ℕ)) → (List (List ℕ) → Type 0) → Type 0
  TakesNext Stood bytes (Some rest) Stands = EndsLine bytes rest.now × Takes causes Stood (line_in bytes) Stands
  TakesNext Stood bytes None Stands = IsUnended bytes × ForEachLines Stood Stands

  -- or what is owed of it is told
  pub record TellsOfNext (Stood : List (List ℕ) → Type 0) (bytes : List ℕ) (told : TextFault) : Type 0 where
    pub rest : List ℕ
    pub ends : EndsLine bytes rest
    pub is : ForEachLines Stood (TellsOfLine (line_in bytes) told)
