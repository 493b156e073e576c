-- From the bits of a vector to the first element of a list that passes a test.
use Rattle.std.proofs.Common.{◌≡◌, ℕ, ◌+◌, ◌-◌, ◌*◌, ◌<◌, ◌≤◌, ◌^◌, ◌%◌, Bool, true, false, not, cond, nat_eq, nat_lt, List, []}
use Rattle.std.proofs.Common.{◌∷◌, inl, inr, length, drop, get_or, map, position, Some, None, refl, sym, ap, ap₂, ◌∙◌}
use Rattle.std.proofs.{Common.{arith, Fits, w8, length-drop}, lemmas.Bool.{agree_below, agree_below_at, cases_lt, eqb-true}, Math.Nat.pow-suc}
use Rattle.std.proofs.lemmas.{Bool.Decides.nat_tests, List.{get_or-drop, get_or-take, length-map, Quantifiers.position-Some}}
use Rattle.std.proofs.lemmas.List.Sums.{position_or_len_is, fails_before_first, prefix_len-le-length}
use Rattle.std.proofs.lemmas.{Option.none-some, Simd.{trailing_mask_l, length-chunk, length-zip2, map-map, mask_l-mod, tops_compared}}
use Rattle.std.proofs.lemmas.Simd.{run_in_chunk_le, run_in_chunk_fails, run_in_chunk_stops, none_from_empty_mask}
use Rattle.std.specs.List.{position_or_len, prefix_len}
use lib.Count.{count_trailing_zeros}
use lib.Lanes.{chunk, mask_l, top, zip2, Each1}

-- no element before the index passes the test
abbrev pub FailsBefore : {X : Type 0} → (X → Bool) → List X → X → ℕ → Type 0
FailsBefore p xs d n = (k : ℕ) → k < n → p (get_or xs k d) ≡ false

none_fails : (b : Bool) (n l m : ℕ) → n ≤ l → cond (not b) (1 + n) 0 ≡ 1 + l → (n ≡ l → m ≡ 0) → cond b 1 0 + 2 * m ≡ 0
none_fails true n l m le e none = absurd (omega (arith, e))
none_fails false n l m le e none = let z = none (omega arith) in omega arith

-- where each element fails, no bit is set
all_fail : {X : Type 0} (p : X → Bool) (xs : List X) → prefix_len (λ x. not (p x)) xs ≡ length xs → mask_l (map p xs) ≡ 0
all_fail p [] e = refl
all_fail p (x ∷ xs) e = none_fails (p x) (prefix_len (λ y. not (p y)) xs) (length xs)
    (mask_l (map p xs)) (prefix_len-le-length (λ y. not (p y)) xs) (omega (arith, e)) (all_fail p xs)

absent_fails : {X : Type 0} (p : X → Bool) (xs : List X) (k : ℕ) (d : X) → k < length xs → position p xs ≡ None → p (get_or xs k d) ≡ false
absent_fails p xs k d within absent = fails_before_first p xs k d (by (nat_lt (position_or_len p xs) (length xs)) refl absent)
  where
    by : (b : Bool) → nat_lt (position_or_len p xs) (length xs) ≡ b → cond b (Some (position_or_len p xs)) None ≡ None → k < position_or_len p xs
    by true e h = absurd (none-some _ (sym h))
    by false e h = grind (arith, nat_tests)

module _ {X : Type 0} (p : X → Bool) (xs : List X) (d : X) where
  -- the first element that passes
  pub position_is : (n : ℕ) → n < length xs → FailsBefore p xs d n → p (get_or xs n d) ≡ true → position p xs ≡ Some n
  position_is n within fails passes =
      let first : position_or_len p xs ≡ n = position_or_len_is p xs n d (omega (arith, within)) fails (λ _. passes) in
      (λ i. cond (nat_lt (first i) (length xs)) (Some (first i)) None) ∙ ap (λ t. cond t (Some n) None) (below within)
    where
      below : n < length xs → nat_lt n (length xs) ≡ true
      below h = grind (arith, nat_tests)

  -- where none passes
  pub position_is_none : FailsBefore p xs d (length xs) → position p xs ≡ None
  position_is_none fails =
      let first : position_or_len p xs ≡ length xs = position_or_len_is p xs (length xs) d (omega arith) fails (λ h. absurd (omega (arith, h))) in
      (λ i. cond (nat_lt (first i) (length xs)) (Some (first i)) None) ∙ ap (λ t. cond t (Some (length xs)) None) not_below
    where
      not_below : nat_lt (length xs) (length xs) ≡ false
      not_below = grind (arith, nat_tests)

  -- the lowest bit of the lanes from an index on is the first, where none before the index passes
  pub first_in_lanes : (at n : ℕ) → at + n ≤ length xs → n ≤ 64 → FailsBefore p xs d at → 0 < mask_l (map p (chunk at n xs))
      → position p xs ≡ Some (at + count_trailing_zeros 64 (mask_l (map p (chunk at n xs))))
  first_in_lanes at n room few fails some =
      let r = count_trailing_zeros 64 (mask_l (map p (chunk at n xs))) in
      let long = length-chunk at n xs room in
      let counted = trailing_mask_l p 64 (chunk at n xs) (omega (arith, long)) some in
      let most : r ≤ n = run_in_chunk_le p xs at n r d room counted in
      let short : r < n = by_cases r n most (λ whole. let none = all_fail p (chunk at n xs) (sym counted ∙ whole ∙ sym long) in omega (arith, none, some)) in
      position_is (at + r) (omega arith)
      (λ k below. elim (cases_lt k at) [ inl early ↦ fails k early | inr late ↦ run_in_chunk_fails p xs at n r d room counted k late below ])
      (run_in_chunk_stops p xs at n r d room counted short)
    where
      by_cases : (r n : ℕ) → r ≤ n → (r ≡ n → ⊥) → r < n
      by_cases r n le ne = grind (arith, ne)

  pub found_in_lanes : (at n mask : ℕ) → mask ≡ mask_l (map p (chunk at n xs)) → at + n ≤ length xs → n ≤ 64 → FailsBefore p xs d at → 0 < mask
      → Some (at + count_trailing_zeros 64 mask) ≡ position p xs
  found_in_lanes at n mask is room few fails some =
      ap (λ mask. Some (at + count_trailing_zeros 64 mask)) is ∙ sym (first_in_lanes at n room few fails (omega (arith, is, some)))

  -- and where no bit is set, none of the lanes passes either
  pub none_in_lanes : (at n : ℕ) → at + n ≤ length xs → FailsBefore p xs d at → mask_l (map p (chunk at n xs)) ≡ 0 → FailsBefore p xs d (at + n)
  none_in_lanes at n room fails none k below =
      elim (cases_lt k at) [
        | inl early ↦ fails k early
        | inr late ↦ none_from_empty_mask p xs at n d room none k (omega arith) below
      ]

  pub none_in_first : (n : ℕ) → n ≤ length xs → mask_l (map p (chunk 0 n xs)) ≡ 0 → FailsBefore p xs d n
  none_in_first n room none k below = none_in_lanes 0 n (omega (arith, room)) (λ i early. absurd (omega (arith, early))) none k (omega (arith, below))

  -- the first of those from an index on, where none before it passes
  pub first_behind : (at k : ℕ) → at ≤ length xs → FailsBefore p xs d at → position p (drop at xs) ≡ Some k → position p xs ≡ Some (at + k)
  first_behind at k within fails found =
      let is = position-Some p (drop at xs) k d found in
      position_is (at + k) (omega (arith, is.0, length-drop at xs))
      (λ j below. elim (cases_lt j at) [
        | inl early ↦ fails j early
        | inr late ↦
            let back : at + (j - at) ≡ j = omega arith in
            ap (λ i. p (get_or xs i d)) (sym back) ∙ ap p (sym (get_or-drop at xs (j - at) d)) ∙ is.2 (j - at) (omega arith)
      ])
      (ap p (sym (get_or-drop at xs k d)) ∙ is.1)

  pub none_behind : (at : ℕ) → at ≤ length xs → FailsBefore p xs d at → position p (drop at xs) ≡ None → position p xs ≡ None
  none_behind at within fails absent =
      position_is_none (λ j below. elim (cases_lt j at) [
        | inl early ↦ fails j early
        | inr late ↦
            let back : at + (j - at) ≡ j = omega arith in
            ap (λ i. p (get_or xs i d)) (sym back) ∙ ap p (sym (get_or-drop at xs (j - at) d))
            ∙ absent_fails p (drop at xs) (j - at) d (omega (arith, length-drop at xs)) absent
      ])

-- two tests that agree on each byte give the same bits
pub same_bits : (f g : ℕ → Bool) → agree_below f g 256 ≡ true → (v : List ℕ) → Each1 (Fits w8) v → map f v ≡ map g v
same_bits f g agree [] fits = refl
same_bits f g agree (x ∷ xs) fits = ap₂ (λ a b. a ∷ b) (agree_below_at f g 256 x agree fits.0.fits) (same_bits f g agree xs fits.1)

-- the bits of lanes that are computed one by one
pub bits_are : (f : ℕ → ℕ) (p : ℕ → Bool) (v z : List ℕ) → length v ≤ 64 → Each1 (Fits w8) v → z ≡ map f v
    → agree_below (λ x. top 7 (f x)) p 256 ≡ true → mask_l (map (top 7) z) % 2 ^ 64 ≡ mask_l (map p v)
bits_are f p v z short fits e agree =
    ap (λ l. mask_l l % 2 ^ 64) (ap (map (top 7)) e ∙ map-map (top 7) f v ∙ same_bits (λ x. top 7 (f x)) p agree v fits)
    ∙ mask_l-mod (map p v) 64 (omega (arith, length-map v p))

-- vectors of which each lane is alike have all bits, and are alike then
same_by_bits : (xs ys : List ℕ) → length xs ≡ length ys → mask_l (zip2 nat_eq xs ys) + 1 ≡ 2 ^ length xs → xs ≡ ys
same_by_bits [] [] e bits = refl
same_by_bits [] (y ∷ ys) e bits = absurd (omega (arith, e))
same_by_bits (x ∷ xs) [] e bits = absurd (omega (arith, e))
same_by_bits (x ∷ xs) (y ∷ ys) e bits = by (nat_eq x y) refl bits (same_by_bits xs ys (omega (arith, e)))
  where
    by : (b : Bool) → nat_eq x y ≡ b → cond b 1 0 + 2 * mask_l (zip2 nat_eq xs ys) + 1 ≡ 2 ^ length (x ∷ xs)
        → (mask_l (zip2 nat_eq xs ys) + 1 ≡ 2 ^ length xs → xs ≡ ys) → x ∷ xs ≡ y ∷ ys
    by true is all behind = ap₂ (λ z zs. z ∷ zs) (eqb-true x y is) (behind (omega (arith, all, pow-suc 2 (length xs))))
    by false is all behind = absurd (omega (arith, all, pow-suc 2 (length xs)))

pub same_lanes : (xs ys : List ℕ) (n : ℕ) → length xs ≡ n → length ys ≡ n → n ≤ 64
    → mask_l (map (top 7) (zip2 (λ a b. cond (nat_eq a b) 255 0) xs ys)) % 2 ^ 64 + 1 ≡ 2 ^ n → xs ≡ ys
same_lanes xs ys n long other few all =
    let bits =
    ap (λ ms. mask_l ms % 2 ^ 64) (tops_compared w8 nat_eq xs ys)
    ∙ mask_l-mod (zip2 nat_eq xs ys) 64 (omega (arith, length-zip2 nat_eq xs ys (long ∙ sym other), long, few)) in
    same_by_bits xs ys (long ∙ sym other) (ap (λ m. m + 1) (sym bits) ∙ all ∙ ap (λ m. 2 ^ m) (sym long))

-- the elements before an index are alike
abbrev pub AreSameBefore : List ℕ → List ℕ → ℕ → Type 0
AreSameBefore xs ys n = (k : ℕ) → k < n → get_or xs k 0 ≡ get_or ys k 0

module _ (xs ys : List ℕ) (at n : ℕ) (same : chunk at n xs ≡ chunk at n ys) where
  in_chunk : (zs : List ℕ) (k : ℕ) → at ≤ k → k < at + n → get_or zs k 0 ≡ get_or (chunk at n zs) (k - at) 0
  in_chunk zs k from to =
      let back : at + (k - at) ≡ k = omega (arith, from) in
      ap (λ i. get_or zs i 0) (sym back) ∙ sym (get_or-drop at zs (k - at) 0) ∙ sym (get_or-take n (drop at zs) (k - at) 0 (omega (arith, from, to)))

  pub same_on : AreSameBefore xs ys at → AreSameBefore xs ys (at + n)
  same_on before k below =
      elim (cases_lt k at) [
        | inl early ↦ before k early
        | inr late ↦ in_chunk xs k late below ∙ ap (λ zs. get_or zs (k - at) 0) same ∙ sym (in_chunk ys k late below)
      ]
