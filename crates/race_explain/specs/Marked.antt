-- A line of a text, and how it is shown with a mark below one of its columns.
use Rattle.std.specs.Prelude.{◌≡◌, ℕ, ◌-◌, ◌≤◌, true, if◌then◌else◌, List, ◌++◌, length, map, take, drop, replicate, codes, slice_get, Option, Some}
use Rattle.std.specs.Prelude.{option_map, ⊤}
use Rattle.race_text.specs.{declared.cause.TextCause.TextCause, Words.{parts_of, is_bad_byte, has_bad_byte}}
use Rattle.race_explain.specs.declared.line.TheConstants.{SHOWN, SHOWN_BEFORE}

-- the line of this number, counted from 1
abbrev pub line_at : List ℕ → ℕ → Option (List ℕ)
line_at bytes number = slice_get (parts_of bytes) (number - 1)

-- a byte as it is shown: one that no line may have as a question mark
abbrev pub visible : ℕ → ℕ
visible byte = if is_bad_byte byte then 63 else byte

-- what is shown of a line from a column on
abbrev pub shown_from : ℕ → List ℕ → List ℕ
shown_from from line = take SHOWN (drop from line)

-- the column from which a line is shown that is marked at this one
abbrev pub first_shown : ℕ → ℕ
first_shown column = column - SHOWN_BEFORE

-- the line in quotes, and below it a mark at the column
unfoldable pub marked_line : List ℕ → ℕ → List ℕ
marked_line line column =
    codes "  \"" ++ (map visible (shown_from (first_shown column) line) ++ (codes "\"\n   " ++ (replicate (column - first_shown column) 32 ++ codes "^\n")))

-- where a line is marked for this cause: a byte that no line may have, where it has one; the end, where the newline is missing;
-- of other causes nothing is said
abbrev pub IsMarkFor : TextCause → List ℕ → ℕ → Type 0
IsMarkFor TextCause.BadByte line column = has_bad_byte line ≡ true → option_map is_bad_byte (slice_get line column) ≡ Some true
IsMarkFor TextCause.NoNewline line column = column ≡ length line
IsMarkFor _ line column = ⊤

-- the text is the line, marked for the cause at one of its columns or at its end, and words after it
pub record IsMarked (cause : TextCause) (line text : List ℕ) : Type 0 where
  pub column : ℕ
  pub within : column ≤ length line
  pub at_fault : IsMarkFor cause line column
  pub words : List ℕ
  pub text_is : text ≡ marked_line line column ++ words
