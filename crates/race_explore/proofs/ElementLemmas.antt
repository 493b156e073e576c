-- Which element a list has where, once one more is there, or one is another.
use Rattle.std.proofs.Common.{ℕ, zero, suc, ◌≡◌, ◌⊎◌, ◌<◌, ◌≤◌, ◌+◌, ◌++◌, Bool, true, false, cond, List, [], ◌∷◌, length, Some, All, refl, sym, ap, ◌∙◌, arith, subst, inl, inr}
use Rattle.std.specs.Prelude.{slice_get, slice_set, count_by}
use Rattle.std.proofs.lemmas.{Bool.cases_lt, Option.{none-some, same_Some}}
use Rattle.std.proofs.lemmas.List.Sums.{sum_by-cons}
use Rattle.std.proofs.lemmas.List.Elements.{All-nil, All-cons, All-head, All-tail}

module _ {X : Type 0} where
  -- each element stays where it is once one more is there, and that one comes last
  pub at_front : (xs : List X) (y x : X) (k : ℕ) → slice_get xs k ≡ Some x → slice_get (xs ++ y ∷ []) k ≡ Some x
  at_front [] y x k at = absurd (none-some x at)
  at_front (z ∷ xs) y x zero at = at
  at_front (z ∷ xs) y x (suc k) at = at_front xs y x k at

  pub at_end : (xs : List X) (y : X) → slice_get (xs ++ y ∷ []) (length xs) ≡ Some y
  at_end [] y = refl
  at_end (z ∷ xs) y = at_end xs y

  -- there is no other
  pub at_push : (xs : List X) (y x : X) (k : ℕ) → slice_get (xs ++ y ∷ []) k ≡ Some x → (slice_get xs k ≡ Some x) ⊎ ((k ≡ length xs) × (y ≡ x))
  at_push [] y x zero at = inr (refl, same_Some y x at)
  at_push [] y x (suc k) at = absurd (none-some x at)
  at_push (z ∷ xs) y x zero at = inl at
  at_push (z ∷ xs) y x (suc k) at = by (at_push xs y x k at)
    where
      by : (slice_get xs k ≡ Some x) ⊎ ((k ≡ length xs) × (y ≡ x)) → (slice_get xs k ≡ Some x) ⊎ ((suc k ≡ length (z ∷ xs)) × (y ≡ x))
      by (inl old) = inl old
      by (inr (last, is)) = inr (omega (arith, last), is)

  -- the new one is where the old one was, and the others stay
  pub set_there : (xs : List X) (i : ℕ) (x y : X) → slice_get xs i ≡ Some x → slice_get (slice_set xs i y) i ≡ Some y
  set_there [] i x y at = absurd (none-some x at)
  set_there (z ∷ xs) zero x y at = refl
  set_there (z ∷ xs) (suc i) x y at = set_there xs i x y at

  pub set_elsewhere : (xs : List X) (i k : ℕ) (x y : X) → (k ≡ i → ⊥) → slice_get xs k ≡ Some x → slice_get (slice_set xs i y) k ≡ Some x
  set_elsewhere [] i k x y other at = absurd (none-some x at)
  set_elsewhere (z ∷ xs) zero zero x y other at = absurd (other refl)
  set_elsewhere (z ∷ xs) zero (suc k) x y other at = at
  set_elsewhere (z ∷ xs) (suc i) zero x y other at = at
  set_elsewhere (z ∷ xs) (suc i) (suc k) x y other at = set_elsewhere xs i k x y (λ is. other (omega (arith, is))) at

  pub at_set : (xs : List X) (i k : ℕ) (x y : X) → slice_get (slice_set xs i y) k ≡ Some x
      → ((k ≡ i) × (y ≡ x)) ⊎ ((k ≡ i → ⊥) × (slice_get xs k ≡ Some x))
  at_set [] i k x y at = absurd (none-some x at)
  at_set (z ∷ xs) zero zero x y at = inl (refl, same_Some y x at)
  at_set (z ∷ xs) zero (suc k) x y at = inr (λ is. omega (arith, is), at)
  at_set (z ∷ xs) (suc i) zero x y at = inr (λ is. omega (arith, is), at)
  at_set (z ∷ xs) (suc i) (suc k) x y at = by (at_set xs i k x y at)
    where
      by : ((k ≡ i) × (y ≡ x)) ⊎ ((k ≡ i → ⊥) × (slice_get xs k ≡ Some x))
          → ((suc k ≡ suc i) × (y ≡ x)) ⊎ ((suc k ≡ suc i → ⊥) × (slice_get xs k ≡ Some x))
      by (inl (same, is)) = inl (omega (arith, same), is)
      by (inr (other, old)) = inr ((λ is. other (omega (arith, is))), old)

  -- what holds of each holds of the one that is there
  pub all_at : (P : X → Type 0) (xs : List X) → All P xs → (i : ℕ) (x : X) → slice_get xs i ≡ Some x → P x
  all_at P [] all i x at = absurd (none-some x at)
  all_at P (z ∷ xs) all zero x at = subst P (same_Some z x at) (All-head P z xs all)
  all_at P (z ∷ xs) all (suc i) x at = all_at P xs (All-tail P z xs all) i x at

  pub all_from_at : (P : X → Type 0) (xs : List X) → ((i : ℕ) (x : X) → slice_get xs i ≡ Some x → P x) → All P xs
  all_from_at P [] each = All-nil P
  all_from_at P (z ∷ xs) each = All-cons P z xs (each 0 z refl) (all_from_at P xs (λ i x at. each (suc i) x at))

-- where none is counted, none passes
pub none_passes : {X : Type 0} (p : X → Bool) (xs : List X) → count_by p xs ≡ 0 → (k : ℕ) (x : X) → slice_get xs k ≡ Some x → p x ≡ false
none_passes p [] none k x at = absurd (none-some x at)
none_passes p (z ∷ xs) none k x at = by (p z) refl (λ rest j there. none_passes p xs rest j x there) k at
  where
    split : count_by p (z ∷ xs) ≡ cond (p z) 1 0 + count_by p xs
    split = sum_by-cons (λ y. cond (p y) 1 0) z xs

    by : (b : Bool) → p z ≡ b → (count_by p xs ≡ 0 → (j : ℕ) → slice_get xs j ≡ Some x → p x ≡ false) → (k : ℕ) → slice_get (z ∷ xs) k ≡ Some x → p x ≡ false
    by true passes rest k at = let one : ◌≡◌ {A = ℕ} (cond (p z) 1 0) 1 = ap (λ (b : Bool). cond {A = ℕ} b 1 0) passes in absurd (omega (arith, none, split, one))
    by false fails rest zero at = ap p (sym (same_Some z x at)) ∙ fails
    by false fails rest (suc k) at =
        let zero_here : ◌≡◌ {A = ℕ} (cond (p z) 1 0) 0 = ap (λ (b : Bool). cond {A = ℕ} b 1 0) fails in
        rest (omega (arith, none, split, zero_here)) k at

-- so it is before that place once one more is there
pub none_before_push : {X : Type 0} (p : X → Bool) (xs : List X) (y : X) (n : ℕ) → n ≤ length xs
    → ((k : ℕ) (x : X) → k < n → slice_get xs k ≡ Some x → p x ≡ false) → (k : ℕ) (x : X) → k < n → slice_get (xs ++ y ∷ []) k ≡ Some x → p x ≡ false
none_before_push p xs y n within none k x less at = by (at_push xs y x k at)
  where
    by : (slice_get xs k ≡ Some x) ⊎ ((k ≡ length xs) × (y ≡ x)) → p x ≡ false
    by (inl old) = none k x less old
    by (inr (last, is)) = absurd (omega (arith, last, less, within))

-- what isn't among the first n, nor the next one, isn't among the first n + 1
pub nowhere_more : {X : Type 0} (Such : X → Type 0) (xs : List X) (n : ℕ) (x : X) → ((k : ℕ) (v : X) → k < n → slice_get xs k ≡ Some v → Such v → ⊥)
    → slice_get xs n ≡ Some x → (Such x → ⊥) → (k : ℕ) (v : X) → k < n + 1 → slice_get xs k ≡ Some v → Such v → ⊥
nowhere_more Such xs n x none here fails k v less at such = by (cases_lt k n)
  where
    by : (k < n) ⊎ (n ≤ k) → ⊥
    by (inl before) = none k v before at such
    by (inr back) =
        let same : k ≡ n = omega (arith, less, back) in
        fails (subst Such (same_Some v x (sym at ∙ ap (slice_get xs) same ∙ here)) such)
