-- Where the goroutines of a run stand at its end.
use Rattle.std.proofs.Common.{ℕ, zero, suc, ◌≡◌, ◌+◌, ◌++◌, List, [], ◌∷◌, Option, Some, None, refl, sym, ap, ◌∙◌, arith, add-one}
use Rattle.std.specs.{Prelude.{option_to_list, filter_map}, List.range_with_len}
use Rattle.std.proofs.lemmas.List.Elements.{filter_map-append}

-- one number more
range_more : (a n : ℕ) → range_with_len a (suc n) ≡ range_with_len a n ++ (a + n) ∷ []
range_more a zero = let e : a ≡ a + 0 = omega arith in ap (λ k. k ∷ []) e
range_more a (suc n) =
    let e : a + 1 + n ≡ a + suc n = omega arith in
    ap (λ xs. a ∷ xs) (range_more (a + 1) n ∙ ap (λ k. range_with_len (a + 1) n ++ k ∷ []) e)

one_kept : {X Y : Type 0} (f : X → Option Y) (x : X) → filter_map f (x ∷ []) ≡ option_to_list (f x)
one_kept {Y = Y} f x = by (f x) refl
  where
    by : (o : Option Y) → f x ≡ o → filter_map f (x ∷ []) ≡ option_to_list (f x)
    by (Some y) is = rw is refl
    by None is = rw is refl

kept_more : {Y : Type 0} (f : ℕ → Option Y) (n : ℕ) → filter_map f (range_with_len 0 (n + 1)) ≡ filter_map f (range_with_len 0 n) ++ option_to_list (f n)
kept_more f n =
    let e : 0 + n ≡ n = omega arith in
    ap (λ m. filter_map f (range_with_len 0 m)) (add-one n)
    ∙ ap (filter_map f) (range_more 0 n ∙ ap (λ k. range_with_len 0 n ++ k ∷ []) e)
    ∙ filter_map-append f (range_with_len 0 n) (n ∷ [])
    ∙ ap (λ ys. filter_map f (range_with_len 0 n) ++ ys) (one_kept f n)

-- and what is kept of it
pub kept_on : {Y : Type 0} (f : ℕ → Option Y) (n : ℕ) (o : Option Y) (list next : List Y) → list ≡ filter_map f (range_with_len 0 n) → o ≡ f n
    → next ≡ list ++ option_to_list o → next ≡ filter_map f (range_with_len 0 (n + 1))
kept_on f n o list next kept is longer = longer ∙ (λ i. kept i ++ option_to_list (is i)) ∙ sym (kept_more f n)
