-- The line of a number, cut out of a text, and how it is shown.
use Rattle.std.proofs.Common.{◌≡◌, ℕ, ◌+◌, ◌<◌, ◌≤◌, min, true, ◌⊎◌, inl, inr, List, [], ◌∷◌, ◌++◌, drop, get_or, length, slice_get, Some, None}
use Rattle.std.proofs.Common.{refl, sym, ap, ◌∙◌, arith, append_assoc}
use Rattle.std.proofs.lemmas.{List.{length-drop, drop_more}, Option.{none-some, slice_get-get_or, slice_get_past, slice_get_cases}}
use Rattle.std.{proofs.Math.Nat.{min-eq_left, min-eq_right, min-le_right}, specs.Option.option_map}
use Rattle.race_text.specs.{declared.cause.TextCause.TextCause, Words.{is_bad_byte, has_bad_byte}}
use Rattle.race_explain.specs.Marked.{marked_line, IsMarkFor, IsMarked}
use Rattle.race_explain.specs.Explained.{IsPutAfter}

-- what is left of a list from an index on
module _ {X : Type 0} (xs : List X) (n : ℕ) (y : X) (ys : List X) (left : drop n xs ≡ y ∷ ys) where
  all : length xs ≡ n + 1 + length ys
  all = omega (arith, length-drop n xs, ap length left)

  tail : List X → List X
  tail [] = []
  tail (z ∷ zs) = zs

  head : List X → X
  head [] = y
  head (z ∷ zs) = z

  step : get_or xs n y ∷ drop (n + 1) xs ≡ y ∷ ys
  step = sym (drop_more xs n y (omega (arith, all))) ∙ left

  pub drop_next : drop (n + 1) xs ≡ ys
  unfolding tail
  drop_next = ap tail step

  -- its first element is the one at the index
  pub drop_first : slice_get xs n ≡ Some y
  unfolding head
  drop_first = slice_get-get_or xs n y (omega (arith, all)) ∙ ap (λ (x : X). Some x) (ap head step)

-- past the last one there is none
pub drop_last : {X : Type 0} (xs : List X) (n m : ℕ) (y : X) → drop n xs ≡ y ∷ [] → n < m → slice_get xs m ≡ None
drop_last xs n m y left less = slice_get_past xs m (omega (arith, length-drop n xs, ap length left, less))

-- a mark past the end is at the end
module _ (line : List ℕ) (column : ℕ) where
  mark_stays : (cause : TextCause) → IsMarkFor cause line column → IsMarkFor cause line (min column (length line))
  mark_stays TextCause.NoNewline at = min-eq_right (omega (arith, at))
  mark_stays TextCause.BadByte at = λ has. by has (slice_get_cases line column).1
    where
      by : has_bad_byte line ≡ true
          → ((x : ℕ) × (column < length line) × (slice_get line column ≡ Some x) × (get_or line column x ≡ x))
          ⊎ ((length line ≤ column) × (slice_get line column ≡ None))
          → option_map is_bad_byte (slice_get line (min column (length line))) ≡ Some true
      by has (inl (x, less, found, same)) =
          ap (λ (k : ℕ). option_map is_bad_byte (slice_get line k)) (min-eq_left {n = column} {m = length line} (omega (arith, less))) ∙ at has
      by has (inr (past, none)) = absurd (none-some true (sym (ap (option_map is_bad_byte) none) ∙ at has))
  mark_stays _ at = tt

  -- the line with its mark is put, and words after it
  pub marked_put : (cause : TextCause) (before middle words after : List ℕ) → IsMarkFor cause line column
      → middle ≡ before ++ marked_line line (min column (length line)) → after ≡ middle ++ words → IsPutAfter (IsMarked cause line) before after
  marked_put cause before middle words after at is same = (
    marked_line line (min column (length line)) ++ words,
    record {
      column = min column (length line);
      within = min-le_right column (length line);
      at_fault = mark_stays cause at;
      words = words;
      text_is = refl;
    },
    same ∙ ap (λ t. t ++ words) is ∙ append_assoc before (marked_line line (min column (length line))) words,
  )
