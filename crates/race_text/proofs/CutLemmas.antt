-- A list that is cut at the first element that passes a test.
use Rattle.std.proofs.Common.{◌≡◌, ℕ, ◌==◌, Bor, ◌+◌, ◌-◌, ◌<◌, Bool, true, false, cond, nat_lt, List, [], ◌∷◌, length}
use Rattle.std.proofs.Common.{take, drop, position, Option, Some, None, refl, sym, ap, ◌∙◌, arith, length-drop}
use Rattle.std.proofs.{Math.Seq.take-length, lemmas.Bool.Decides.nat_tests}
use Rattle.std.proofs.lemmas.List.Splits.{slice_split_first, slice_split_none, length-slice_split}
use Rattle.std.proofs.lemmas.{List.Sums.fails_before_first, Option.{cond_some, none-some}}
use Rattle.std.specs.List.{position_or_len, slice_split}
use Rattle.race_text.specs.Words.{parts_left}

-- the rest of a list behind an index, as the code takes it
pub rest_is : {X : Type 0} (xs : List X) (n : ℕ) → take (length xs - n) (drop n xs) ≡ drop n xs
rest_is xs n = ap (λ k. take k (drop n xs)) (sym (length-drop n xs)) ∙ take-length (drop n xs)

-- the first part ends where the first such element stands
pub slice_split-found : {X : Type 0} (p : X → Bool) (xs : List X) (d : X) (end : ℕ) → position p xs ≡ Some end
    → slice_split p xs ≡ take end xs ∷ slice_split p (take (length xs - (end + 1)) (drop (end + 1) xs))
slice_split-found p xs d end found =
    let at = cond_some (nat_lt (position_or_len p xs) (length xs)) (position_or_len p xs) end found in
    let within : position_or_len p xs < length xs = grind (arith, nat_tests, at.0) in
    slice_split_first p xs d within ∙ (λ i. take (at.1 i) xs ∷ slice_split p (drop (at.1 i + 1) xs))
    ∙ (λ i. take end xs ∷ slice_split p (sym (rest_is xs (end + 1)) i))

-- where there is none, the list is the one part
pub slice_split-absent : {X : Type 0} (p : X → Bool) (xs : List X) → position p xs ≡ None → slice_split p xs ≡ xs ∷ []
slice_split-absent p xs absent = slice_split_none p xs
    (λ k d within. fails_before_first p xs k d (below k within (nat_lt (position_or_len p xs) (length xs)) refl absent))
  where
    below : (k : ℕ) → k < length xs → (b : Bool) → nat_lt (position_or_len p xs) (length xs) ≡ b → cond b (Some (position_or_len p xs)) None ≡ None
        → k < position_or_len p xs
    below k within true e h = absurd (none-some _ (sym h))
    below k within false e h = grind (arith, nat_tests)

-- where anything is left, there is a part
pub some_part : (byte : ℕ) (left : Option (Bor (List ℕ))) (rest : Bor (List ℕ)) → left ≡ Some rest → 0 < length (parts_left byte left)
some_part byte left rest is =
    let some = length-slice_split (λ b. b == byte) rest.now in
    let same : length (parts_left byte left) ≡ length (slice_split (λ b. b == byte) rest.now) = ap (λ l. length (parts_left byte l)) is in
    omega (arith, some, same)
