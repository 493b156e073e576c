-- The first fault of a text that is read line by line, by the causes of its kind.
use Rattle.std.specs.Prelude.{◌≡◌, ℕ, ◌+◌, ◌≤◌, List, [], ◌∷◌, ◌++◌, length, Option, Some, None}
use Rattle.race_text.specs.{declared.cause.{TextCause.TextCause, TextFault.TextFault}, Words.parts_of}

-- the causes of a kind of text: the least one of a line that a newline ends, and of what stands behind the last newline. Both
-- go by the lines before
pub record Causes : Type 0 where
  pub line : List (List ℕ) → List ℕ → Option TextCause
  pub end : List (List ℕ) → List ℕ → Option TextCause

-- the fault of a line by its cause, or else a later one
abbrev pub or_later : ℕ → Option TextCause → Option TextFault → Option TextFault
or_later line None later = later
or_later line (Some c) later = Some (record { line = line; cause = c })

-- the bytes have a line of this number, counted from 1, or it is the one behind the last newline
abbrev pub IsLineOf : List ℕ → ℕ → Type 0
IsLineOf bytes line = (1 ≤ line) × (line ≤ length (parts_of bytes))

-- no fault stands on an earlier line
abbrev pub IsNoneBefore : ℕ → Option TextFault → Type 0
IsNoneBefore line fault = (f : TextFault) → fault ≡ Some f → line ≤ f.line

module _ (causes : Causes) where
  -- the first fault of the parts that stand after these lines
  unfoldable pub fault_after : List (List ℕ) → List (List ℕ) → Option TextFault
  fault_after before [] = None
  fault_after before (last ∷ []) = or_later (length before + 1) (causes.end before last) None
  fault_after before (line ∷ next ∷ others) =
      or_later (length before + 1) (causes.line before line) (fault_after (before ++ line ∷ []) (next ∷ others))

  -- the first fault of a text
  unfoldable pub first_fault : List ℕ → Option TextFault
  first_fault bytes = fault_after [] (parts_of bytes)

  -- one more line, at which no cause holds
  pub record GoesOn (before : List (List ℕ)) (line : List ℕ) (after : List (List ℕ)) : Type 0 where
    pub no_cause : causes.line before line ≡ None
    pub lines : after ≡ before ++ line ∷ []
