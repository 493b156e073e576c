-- Lines of at most 100 columns. A tab stands where the text of a line begins, and isn't shown. From there on the line is folded: where the word
-- behind a blank has no room in 100 columns, a new line stands in place of the blank, indented by two columns more than the text. A word
-- that is longer than a line stands alone, whole.
use Rattle.std.specs.Prelude.{ℕ, ◌+◌, ◌-◌, if◌then◌else◌, ◌==◌, ◌&&◌, ◌||◌, nat_le, Bool, true, false, List, [], ◌∷◌}
use Rattle.std.specs.Prelude.{◌++◌, length, replicate, unwrap_or, position}
use Rattle.race_draw.specs.declared.fold.{Spot.Spot, TheConstants.{COLUMNS, HANGING}}

-- before the first byte of a line
abbrev pub line_start : Spot
line_start = record { in_text = false; indent = 0; column = 0 }

-- a blank, or the end of a line
abbrev pub ends_word : ℕ → Bool
ends_word byte = (byte == 32) || (byte == 10)

-- how long the word is with which a text begins
abbrev pub word_len : List ℕ → ℕ
word_len text = unwrap_or (position ends_word text) (length text)

-- the byte is a blank, and the word behind it has no room
abbrev pub folds : Spot → ℕ → List ℕ → Bool
folds spot byte text = (spot.in_text && (byte == 32)) && nat_le (COLUMNS - spot.column) (word_len text)

-- a new line, indented
abbrev pub fold : ℕ → List ℕ
fold indent = 10 ∷ replicate indent 32

-- what stands for a byte, at which the line is folded or isn't
abbrev pub piece : Spot → ℕ → Bool → List ℕ
piece spot byte folds =
    if byte == 9 then []
    else if folds then fold spot.indent
    else byte ∷ []

-- where the next one stands
abbrev pub next : Spot → ℕ → Bool → Spot
next spot byte folds =
    if byte == 9 then record { in_text = true; indent = spot.column + HANGING; column = spot.column }
    else if byte == 10 then line_start
    else record { in_text = spot.in_text; indent = spot.indent; column = (if folds then spot.indent else spot.column + 1) }

-- the text from there on, folded
abbrev pub folded : Spot → List ℕ → List ℕ
folded spot [] = []
folded spot (byte ∷ text) = piece spot byte (folds spot byte text) ++ folded (next spot byte (folds spot byte text)) text
