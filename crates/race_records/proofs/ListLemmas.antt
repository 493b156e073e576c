-- One more element at the end of a list.
use Rattle.std.proofs.Common.{◌≡◌, ℕ, zero, suc, ◌<◌, ◌⊎◌, inl, inr, List, [], ◌∷◌, ◌++◌, length, slice_get, map, Some}
use Rattle.std.proofs.{Common.{refl, sym, ap, ◌∙◌, arith}, lemmas.List.{length-append, Concat.flat_map-cons}}
use Rattle.std.{proofs.lemmas.Option.{none-some, same_Some, slice_get_within}, specs.List.flat_map}
use Rattle.race_records.specs.DeclsHold.{Leads}

module _ {X : Type 0} where
  -- an earlier element stays
  pub slice_get-push_within : (xs : List X) (x : X) (i : ℕ) → i < length xs → slice_get (xs ++ x ∷ []) i ≡ slice_get xs i
  slice_get-push_within [] x i h = absurd (omega arith)
  slice_get-push_within (y ∷ ys) x zero h = refl
  slice_get-push_within (y ∷ ys) x (suc i) h = slice_get-push_within ys x i (omega arith)

  -- and the new one stands last
  pub slice_get-push_last : (xs : List X) (x : X) (n : ℕ) → n ≡ length xs → slice_get (xs ++ x ∷ []) n ≡ Some x
  slice_get-push_last [] x zero h = refl
  slice_get-push_last [] x (suc n) h = absurd (omega arith)
  slice_get-push_last (y ∷ ys) x zero h = absurd (omega arith)
  slice_get-push_last (y ∷ ys) x (suc n) h = slice_get-push_last ys x n (omega arith)

  -- an element of the longer list is an earlier one or the new one
  pub slice_get-push_cases : (xs : List X) (x : X) (i : ℕ) (y : X) → slice_get (xs ++ x ∷ []) i ≡ Some y
      → (slice_get xs i ≡ Some y) ⊎ ((i ≡ length xs) × (y ≡ x))
  slice_get-push_cases [] x zero y h = inr (refl, sym (same_Some x y h))
  slice_get-push_cases [] x (suc i) y h = absurd (none-some y h)
  slice_get-push_cases (z ∷ zs) x zero y h = inl h
  slice_get-push_cases (z ∷ zs) x (suc i) y h = elim (slice_get-push_cases zs x i y h) [ inl e ↦ inl e | inr e ↦ inr (omega (arith, e.0), e.1) ]

  -- an index within the list has an element
  pub slice_get-within : (xs : List X) (i : ℕ) → i < length xs → (x : X) × (slice_get xs i ≡ Some x)
  slice_get-within [] i h = absurd (omega arith)
  slice_get-within (x ∷ xs) zero h = (x, refl)
  slice_get-within (x ∷ xs) (suc i) h = slice_get-within xs i (omega arith)

  -- lists with the same elements at all indexes are the same
  pub same_elements : (xs ys : List X) → length xs ≡ length ys → ((k : ℕ) → k < length xs → slice_get xs k ≡ slice_get ys k) → xs ≡ ys
  same_elements [] [] e h = refl
  same_elements [] (y ∷ ys) e h = absurd (omega arith)
  same_elements (x ∷ xs) [] e h = absurd (omega arith)
  same_elements (x ∷ xs) (y ∷ ys) e h =
      let first = same_Some x y (h 0 (omega arith)) in
      let rest = same_elements xs ys (omega arith) (λ k l. h (suc k) (omega arith)) in
      λ i. first i ∷ rest i

  -- an index that leads somewhere stands within the list
  pub leads_within : (list part : List X) (indexes : List ℕ) → Leads list part indexes → (n i : ℕ) → slice_get indexes n ≡ Some i → i < length list
  leads_within list part indexes leads n i at =
      by part (omega (arith, slice_get_within indexes n i at, leads.sized)) (leads.to n i at)
    where
      by : (part : List X) → n < length part → slice_get list i ≡ slice_get part n → i < length list
      by part h e = let found = slice_get-within part n h in slice_get_within list i found.0 (e ∙ found.1)

module _ {X : Type 0} (list part : List X) (indexes : List ℕ) (leads : Leads list part indexes) (x : X) where
  stays : (n i : ℕ) → slice_get indexes n ≡ Some i → slice_get (list ++ x ∷ []) i ≡ slice_get part n
  stays n i at = slice_get-push_within list x i (leads_within list part indexes leads n i at) ∙ leads.to n i at

  -- an element of another part is added
  pub Leads-other : Leads (list ++ x ∷ []) part indexes
  Leads-other = record { to = stays; sized = leads.sized }

  -- an element of the part is added
  pub Leads-same : (last : ℕ) → last ≡ length list → Leads (list ++ x ∷ []) (part ++ x ∷ []) (indexes ++ last ∷ [])
  Leads-same last e = record {
    to = λ n i at. elim (slice_get-push_cases indexes last n i at) [
      | inl old ↦ stays n i old ∙ sym (slice_get-push_within part x n (omega (arith, slice_get_within indexes n i old, leads.sized)))
      | inr new ↦ slice_get-push_last list x i (new.1 ∙ e) ∙ sym (slice_get-push_last part x n (new.0 ∙ leads.sized))
    ];
    sized = omega (arith, length-append indexes (last ∷ []), length-append part (x ∷ []), leads.sized);
  }

-- pieces of what is mapped
pub flat_map-map : {X Y : Type 0} (f : Y → List ℕ) (h : X → Y) (xs : List X) → flat_map f (map h xs) ≡ flat_map (λ x. f (h x)) xs
flat_map-map f h [] = refl
flat_map-map f h (x ∷ xs) = flat_map-cons f (h x) (map h xs) ∙ ap (λ l. f (h x) ++ l) (flat_map-map f h xs) ∙ sym (flat_map-cons (λ y. f (h y)) x xs)
