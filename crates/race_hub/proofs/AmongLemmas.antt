-- The first number of a list that is the one looked for.
use Rattle.std.proofs.Common.{◌≡◌, ◌||◌, ℕ, zero, suc, ◌<◌, ◌≤◌, Bool, true, false, List, [], ◌∷◌, length, take, get_or}
use Rattle.std.proofs.Common.{cond, nat_lt, Some, ◌==◌, ◌+◌, refl, sym, ap, ◌∙◌, arith, true≢false}
use Rattle.std.proofs.lemmas.{Bool.Decides.nat_tests, List.{take_all, Sums.{fails_before_first, passes_at_first}}}
use Rattle.std.{proofs.lemmas.Option.slice_get-get_or, specs.List.{list_any, count_by, position_or_len}}
use Rattle.race_hub.{specs.Submits.without_first, proofs.{OnceLemmas.count_remove, TableLemmas.same_number}}

either_false : (a b : Bool) → (a || b) ≡ false → (a ≡ false) × (b ≡ false)
either_false true b is = absurd cc
either_false false b is = (refl, is)

-- where none of the front passes, each of it fails
pub none_before : (p : ℕ → Bool) (xs : List ℕ) (n k d : ℕ) → list_any p (take n xs) ≡ false → k < n → k < length xs → p (get_or xs k d) ≡ false
none_before p xs zero k d is less within = absurd (omega (arith, less))
none_before p [] (suc n) k d is less within = absurd (omega (arith, within))
none_before p (x ∷ xs) (suc n) zero d is less within = (either_false (p x) (list_any p (take n xs)) is).0
none_before p (x ∷ xs) (suc n) (suc k) d is less within =
    none_before p xs n k d (either_false (p x) (list_any p (take n xs)) is).1 (omega (arith, less)) (omega (arith, within))

-- where none of the whole list passes, none of it does
pub none_at_all : (p : ℕ → Bool) (xs : List ℕ) (n : ℕ) → length xs ≤ n → list_any p (take n xs) ≡ false → list_any p xs ≡ true → ⊥
none_at_all p xs n le none some = true≢false (sym some ∙ ap (list_any p) (sym (take_all n xs le)) ∙ none)

none_any : (p : ℕ → Bool) (xs : List ℕ) (d : ℕ) → ((k : ℕ) → k < length xs → p (get_or xs k d) ≡ false) → list_any p xs ≡ false
none_any p [] d all = refl
none_any p (x ∷ xs) d all =
    ap (λ b. b || list_any p xs) (all zero (omega arith)) ∙ none_any p xs d (λ k less. all (suc k) (omega (arith, less)))

any_within : (p : ℕ → Bool) (xs : List ℕ) → list_any p xs ≡ true → position_or_len p xs < length xs
any_within p xs is = by (nat_lt (position_or_len p xs) (length xs)) refl
  where
    by : (b : Bool) → nat_lt (position_or_len p xs) (length xs) ≡ b → position_or_len p xs < length xs
    by true test = grind (arith, nat_tests)
    by false test =
        let le : length xs ≤ position_or_len p xs = grind (arith, nat_tests) in
        absurd (true≢false (sym is ∙ none_any p xs 0 (λ k less. fails_before_first p xs k 0 (omega (arith, less, le)))))

-- without the first that is g there is one g fewer
pub first_gone : (xs : List ℕ) (g k : ℕ) → list_any (λ o. o == g) xs ≡ true
    → count_by (λ o. o == k) (without_first g xs) + cond (g == k) 1 0 ≡ count_by (λ o. o == k) xs
first_gone xs g k is =
    let within = any_within (λ o. o == g) xs is in
    let at = position_or_len (λ o. o == g) xs in
    let found = same_number (get_or xs at 0) g (passes_at_first (λ o. o == g) xs 0 within) in
    count_remove (λ o. o == k) xs at g (slice_get-get_or xs at 0 within ∙ ap Some found)
