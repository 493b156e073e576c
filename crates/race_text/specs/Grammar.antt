-- What a grammar answers, by the lines that it took. Those are known to proofs alone: it need not keep them.
use Rattle.std.specs.{Prelude.{◌≡◌, ◌≢◌, ℕ, List, ◌∷◌, [], ◌++◌, Option, Some, None}, Borrow.Bor, List.flat_map}
use Rattle.race_text.specs.{declared.cause.TextCause.TextCause, Text.ended, Lines.Causes, Owed.owed}
use Rattle.race_text.specs.Common.{line_in, EndsLine}

-- it stands for some lines
pub record StandsForSome (Stands : List (List ℕ) → Type 0) : Type 0 where
  pub lines : List (List ℕ)
  pub stands : Stands lines

-- it holds of the lines for which it stands, whichever they are
abbrev pub ForEachLines : (List (List ℕ) → Type 0) → (List (List ℕ) → Type 0) → Type 0
ForEachLines Stands Holds = (lines : List (List ℕ)) → Stands lines → Holds lines

-- the lines are these, of a state that has them and is sound
abbrev pub AreThese : Type 0 → List (List ℕ) → List (List ℕ) → Type 0
AreThese IsSound known lines = IsSound × (lines ≡ known)

module _ (causes : Causes) where
  -- no cause holds at the line, and it stands for the lines before with this one behind them
  pub record TakesBehind (line : List ℕ) (Stands : List (List ℕ) → Type 0) (before : List (List ℕ)) : Type 0 where
    pub no_cause : causes.line before line ≡ None
    pub stands : Stands (before ++ line ∷ [])

  -- the line is taken, whichever it stood for
  abbrev pub Takes : (List (List ℕ) → Type 0) → List ℕ → (List (List ℕ) → Type 0) → Type 0
  Takes Stood line Stands = ForEachLines Stood (TakesBehind line Stands)

  -- or what is owed by its least cause is told
  abbrev pub Tells : (List (List ℕ) → Type 0) → List ℕ → TextCause → Type 0
  Tells Stood line told = ForEachLines Stood (λ before. told ≡ owed (causes.line before line))

  -- the line in front is taken where the bytes behind it are told, and else nothing is
  abbrev pub TakesIfTold : (List (List ℕ) → Type 0) → List ℕ → Option (Bor (List ℕ)) → (List (List ℕ) → Type 0) → Type 0
  TakesIfTold Stood bytes (Some rest) Stands = EndsLine bytes rest.now × Takes Stood (line_in bytes) Stands
  TakesIfTold Stood bytes None Stands = ForEachLines Stood Stands

  -- a newline ends the line in front, and what is owed by its least cause is told
  pub record TellsOfFront (Stood : List (List ℕ) → Type 0) (bytes : List ℕ) (told : TextCause) : Type 0 where
    pub rest : List ℕ
    pub ends : EndsLine bytes rest
    pub least : Tells Stood (line_in bytes) told

  -- the lines with what stands behind them are read as this, and no cause holds at their end
  pub record IsWhole {W : Type 0} (IsTextOf : W → List ℕ → Type 0) (last : List ℕ) (whole : W) (lines : List (List ℕ)) : Type 0 where
    pub no_cause : causes.end lines last ≡ None
    pub text : IsTextOf whole (flat_map ended lines ++ last)

  -- or the cause that holds there is told, unless it is want of memory
  abbrev pub TellsOfEnd : (List (List ℕ) → Type 0) → List ℕ → TextCause → Type 0
  TellsOfEnd Stands last told = told ≢ TextCause.OutOfMemory → ForEachLines Stands (λ lines. causes.end lines last ≡ Some told)
