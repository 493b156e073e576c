-- What was joined is cut again: the words of a line, and the lines of a text.
use Rattle.std.proofs.Common.{◌≡◌, ℕ, ◌==◌, Bool, true, false, List, [], ◌∷◌, ◌++◌, get_or, All, refl, sym, ap, ◌∙◌}
use Rattle.std.proofs.{Common.{arith, true≢false, append_assoc}, lemmas.Bool.Decides.nat_tests}
use Rattle.std.proofs.lemmas.List.{Concat.flat_map-cons, Folds.list_any_at, Splits.{slice_split_none, slice_split_at}}
use Rattle.std.{proofs.lemmas.List.Sums.AllPass-from_list_all, specs.List.{list_all, AllByRecursion, flat_map}}
use Rattle.std.specs.List.{slice_split, join_with_byte}
use Rattle.race_records.specs.Name.{is_place_byte}
use Rattle.race_text.specs.{Words.{parts_of, words_of, is_bad_byte, has_bad_byte}, Text.{line_of, ended}}
use Rattle.race_text.proofs.CleanLemmas.{joined_clean, visible_clean}

-- the byte is nowhere in the list
abbrev pub IsWithout : ℕ → List ℕ → Type 0
IsWithout byte bytes = All (λ b. (b == byte) ≡ false) bytes

without_space : (word : List ℕ) → list_all is_place_byte word ≡ true → IsWithout 32 word
without_space word visible = λ i d within. let v = AllPass-from_list_all is_place_byte word visible i d within in grind (arith, nat_tests, v)

without_newline : (line : List ℕ) → has_bad_byte line ≡ false → IsWithout 10 line
without_newline line clean = λ i d within. fine (get_or line i d) (by (is_bad_byte (get_or line i d)) (list_any_at is_bad_byte line i d within))
  where
    by : (b : Bool) → (b ≡ true → has_bad_byte line ≡ true) → b ≡ false
    by true h = absurd (true≢false (sym (h refl) ∙ clean))
    by false h = refl

    fine : (byte : ℕ) → is_bad_byte byte ≡ false → (byte == 10) ≡ false
    fine byte h = grind (arith, nat_tests)

-- each byte of each word can be seen
abbrev pub AreVisible : List (List ℕ) → Type 0
AreVisible words = AllByRecursion (λ w. list_all is_place_byte w ≡ true) words

-- words without the byte that joins them are those that it is cut into
pub split_again : (byte : ℕ) → (byte == byte) ≡ true → (w : List ℕ) (ws : List (List ℕ)) → AllByRecursion (IsWithout byte) (w ∷ ws)
    → slice_split (λ b. b == byte) (join_with_byte byte (w ∷ ws)) ≡ w ∷ ws
split_again byte same w [] without = slice_split_none (λ b. b == byte) w without.0
split_again byte same w (v ∷ ws) without =
    slice_split_at (λ b. b == byte) w byte (join_with_byte byte (v ∷ ws)) without.0 same ∙ ap (λ l. w ∷ l) (split_again byte same v ws without.1)

-- words that can be seen are the words of their line
pub words_again : (w : List ℕ) (ws : List (List ℕ)) → AreVisible (w ∷ ws) → words_of (line_of (w ∷ ws)) ≡ w ∷ ws
words_again w ws visible = split_again 32 refl w ws (each (w ∷ ws) visible)
  where
    each : (ws : List (List ℕ)) → AreVisible ws → AllByRecursion (IsWithout 32) ws
    each [] visible = tt
    each (w ∷ ws) visible = (without_space w visible.0, each ws visible.1)

-- and the line has no bad byte
pub visible_line_clean : (ws : List (List ℕ)) → AreVisible ws → has_bad_byte (line_of ws) ≡ false
visible_line_clean ws visible = joined_clean ws (each ws visible)
  where
    each : (ws : List (List ℕ)) → AreVisible ws → AllByRecursion (λ w. has_bad_byte w ≡ false) ws
    each [] visible = tt
    each (w ∷ ws) visible = (visible_clean w visible.0, each ws visible.1)

-- lines without bad bytes are the parts of their text, before an empty one
pub operands_again : (ls : List (List ℕ)) → AllByRecursion (λ l. has_bad_byte l ≡ false) ls → parts_of (flat_map ended ls) ≡ ls ++ [] ∷ []
operands_again [] clean = refl
operands_again (l ∷ ls) clean =
    ap parts_of (flat_map-cons ended l ls ∙ append_assoc l (10 ∷ []) (flat_map ended ls))
    ∙ slice_split_at (λ byte. byte == 10) l 10 (flat_map ended ls) (without_newline l clean.0) refl
    ∙ ap (λ ps. l ∷ ps) (operands_again ls clean.1)
