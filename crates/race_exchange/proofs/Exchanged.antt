-- What doesn't see that two neighbours of a list have changed places.
use Rattle.std.proofs.Common.{◌≡◌, ◌⊎◌, ℕ, suc, Bool, false, cond, List, [], ◌∷◌, ◌++◌, Option, Some, None, length}
use Rattle.std.proofs.Common.{count_by, slice_get, filter, filter_map, refl, sym, ap, ◌∙◌, inl, inr, arith, length-append}
use Rattle.std.{proofs.lemmas.List.Sums.{sum_by-append, sum_by-cons}, specs.List.{cons_option, sum_by}}
use Rattle.std.proofs.lemmas.List.Elements.{filter-append, filter_map-append}
use Rattle.race_model.specs.Events.{last_of}

module _ {X : Type 0} (before : List X) (a b : X) (rest : List X) where
  -- sums and counts
  pub sum_exchanged : (f : X → ℕ) → sum_by f (before ++ a ∷ b ∷ rest) ≡ sum_by f (before ++ b ∷ a ∷ rest)
  sum_exchanged f =
      let one = sum_by-append f before (a ∷ b ∷ rest) in
      let other = sum_by-append f before (b ∷ a ∷ rest) in
      let a_first = sum_by-cons f a (b ∷ rest) in
      let b_first = sum_by-cons f b (a ∷ rest) in
      let then_b = sum_by-cons f b rest in
      let then_a = sum_by-cons f a rest in
      omega (arith, one, other, a_first, b_first, then_b, then_a)

  pub count_exchanged : (p : X → Bool) → count_by p (before ++ a ∷ b ∷ rest) ≡ count_by p (before ++ b ∷ a ∷ rest)
  count_exchanged p = sum_exchanged (λ e. cond (p e) 1 0)

  pub length_exchanged : length (before ++ a ∷ b ∷ rest) ≡ length (before ++ b ∷ a ∷ rest)
  length_exchanged = length-append before (a ∷ b ∷ rest) ∙ sym (length-append before (b ∷ a ∷ rest))

  -- what the elements that pass give, where one of the two doesn't
  pub filter_exchanged : (p : X → Bool) → (p a ≡ false) ⊎ (p b ≡ false) → filter p (before ++ a ∷ b ∷ rest) ≡ filter p (before ++ b ∷ a ∷ rest)
  filter_exchanged p one = filter-append p before (a ∷ b ∷ rest) ∙ ap (λ (xs : List X). filter p before ++ xs) (turned one) ∙ sym (filter-append p before (b ∷ a ∷ rest))
    where
      turned : (p a ≡ false) ⊎ (p b ≡ false) → filter p (a ∷ b ∷ rest) ≡ filter p (b ∷ a ∷ rest)
      turned (inl nothing) = (λ i. cond (nothing i) (a ∷ cond (p b) (b ∷ filter p rest) (filter p rest)) (cond (p b) (b ∷ filter p rest) (filter p rest)))
          ∙ sym (λ i. cond (p b) (b ∷ cond (nothing i) (a ∷ filter p rest) (filter p rest)) (cond (nothing i) (a ∷ filter p rest) (filter p rest)))
      turned (inr nothing) = (λ i. cond (p a) (a ∷ cond (nothing i) (b ∷ filter p rest) (filter p rest)) (cond (nothing i) (b ∷ filter p rest) (filter p rest)))
          ∙ sym (λ i. cond (nothing i) (b ∷ cond (p a) (a ∷ filter p rest) (filter p rest)) (cond (p a) (a ∷ filter p rest) (filter p rest)))

-- the first value, or else the second
abbrev or_else : {A : Type 0} → Option A → Option A → Option A
or_else (Some v) other = Some v
or_else None other = other

last_of_cons : {X A : Type 0} (f : X → Option A) (x : X) (xs : List X) → last_of f (x ∷ xs) ≡ or_else (last_of f xs) (f x)
last_of_cons {A = A} f x xs = by (last_of f xs)
  where
    by : (o : Option A) → ◌≡◌ {A = Option A} (elim o [ Some v ↦ Some v | None ↦ f x ]) (or_else o (f x))
    by None = refl
    by (Some v) = refl

-- the last value of a list is the same where each element gives the same
pub last_same : {X A : Type 0} (f h : X → Option A) (xs : List X) → ((k : ℕ) (x : X) → slice_get xs k ≡ Some x → f x ≡ h x) → last_of f xs ≡ last_of h xs
last_same f h [] each = refl
last_same f h (x ∷ xs) each = last_of_cons f x xs
    ∙ (λ i. or_else (last_same f h xs (λ k y at. each (suc k) y at) i) (each 0 x refl i)) ∙ sym (last_of_cons h x xs)

module _ {X A : Type 0} (f : X → Option A) (a b : X) (rest : List X) where
  -- the values that are given, and the last of them, where one of the two gives none
  pub values_exchanged : (before : List X) → (f a ≡ None) ⊎ (f b ≡ None) → filter_map f (before ++ a ∷ b ∷ rest) ≡ filter_map f (before ++ b ∷ a ∷ rest)
  values_exchanged before one = filter_map-append f before (a ∷ b ∷ rest)
      ∙ ap (λ (ys : List A). filter_map f before ++ ys) (turned one) ∙ sym (filter_map-append f before (b ∷ a ∷ rest))
    where
      turned : (f a ≡ None) ⊎ (f b ≡ None) → filter_map f (a ∷ b ∷ rest) ≡ filter_map f (b ∷ a ∷ rest)
      turned (inl nothing) = (λ i. cons_option (nothing i) (cons_option (f b) (filter_map f rest)))
          ∙ sym (λ i. cons_option (f b) (cons_option (nothing i) (filter_map f rest)))
      turned (inr nothing) = (λ i. cons_option (f a) (cons_option (nothing i) (filter_map f rest)))
          ∙ sym (λ i. cons_option (nothing i) (cons_option (f a) (filter_map f rest)))

  pub last_exchanged : (before : List X) → (f a ≡ None) ⊎ (f b ≡ None) → last_of f (before ++ a ∷ b ∷ rest) ≡ last_of f (before ++ b ∷ a ∷ rest)
  last_exchanged (x ∷ before) one = last_of_cons f x (before ++ a ∷ b ∷ rest)
      ∙ ap (λ (o : Option A). or_else o (f x)) (last_exchanged before one) ∙ sym (last_of_cons f x (before ++ b ∷ a ∷ rest))
  last_exchanged [] one = both a b ∙ by (last_of f rest) (f a) (f b) one ∙ sym (both b a)
    where
      both : (y z : X) → last_of f (y ∷ z ∷ rest) ≡ or_else (or_else (last_of f rest) (f z)) (f y)
      both y z = last_of_cons f y (z ∷ rest) ∙ ap (λ (o : Option A). or_else o (f y)) (last_of_cons f z rest)

      by : (o p q : Option A) → (p ≡ None) ⊎ (q ≡ None) → or_else (or_else o q) p ≡ or_else (or_else o p) q
      by (Some v) p q which = refl
      by None None None which = refl
      by None (Some v) None which = refl
      by None None (Some w) which = refl
      by None (Some v) (Some w) (inl nothing) = cc
      by None (Some v) (Some w) (inr nothing) = cc
