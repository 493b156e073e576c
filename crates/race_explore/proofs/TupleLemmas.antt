-- Which tuples there are, and which of them are choices.
use Rattle.std.proofs.Common.{ℕ, zero, suc, ◌≡◌, ◌==◌, ◌<◌, ◌≤◌, ◌+◌, ◌-◌, ◌++◌, ◌⊎◌, Bool, true, false, cond, List, [], ◌∷◌}
use Rattle.std.proofs.Common.{length, filter, map, flat_map, Some, refl, sym, ap, ◌∙◌, subst, arith, inl, inr, true≢false, eq-eqb, eqb-true}
use Rattle.std.proofs.lemmas.{Option.{none-some, same_Some}}
use Rattle.std.specs.{List.range_with_len}
use Rattle.race_model.proofs.Indexes.{append_at_old}
use Rattle.race_records.specs.declared.event.Event.{Event}
use Rattle.race_requests.specs.declared.{choice.Choice.Choice, request.Waiter.Waiter}
use Rattle.race_requests.specs.Choices.{choice, below, with_partner, of_branch, tuples, branches_at, tuples_of, is_choice, choices}
use Rattle.race_explore.proofs.WaiterLemmas.{IsIn, in_more, first_in}

module _ {X : Type 0} where
  pub in_left : (x : X) (xs ys : List X) → IsIn x xs → IsIn x (xs ++ ys)
  in_left x xs ys (i, at) = (i, append_at_old xs ys i x at)

  pub in_right : (x : X) (xs ys : List X) → IsIn x ys → IsIn x (xs ++ ys)
  in_right x [] ys there = there
  in_right x (y ∷ xs) ys there = in_more x y (xs ++ ys) (in_right x xs ys there)

  pub in_either : (x : X) (xs ys : List X) → IsIn x (xs ++ ys) → IsIn x xs ⊎ IsIn x ys
  in_either x [] ys there = inr there
  in_either x (y ∷ xs) ys (zero, at) = inl (0, at)
  in_either x (y ∷ xs) ys (suc i, at) = by (in_either x xs ys (i, at))
    where
      by : IsIn x xs ⊎ IsIn x ys → IsIn x (y ∷ xs) ⊎ IsIn x ys
      by (inl there) = inl (in_more x y xs there)
      by (inr there) = inr there

  nowhere : (x : X) → IsIn x [] → ⊥
  nowhere x (i, at) = none-some x at

  -- what passes is kept
  pub filter_has : (p : X → Bool) (xs : List X) (x : X) → IsIn x xs → p x ≡ true → IsIn x (filter p xs)
  filter_has p [] x there passes = absurd (nowhere x there)
  filter_has p (y ∷ xs) x (zero, at) passes =
      let same = same_Some y x at in
      subst (λ b. IsIn x (cond b (y ∷ filter p xs) (filter p xs))) (sym (ap p same ∙ passes)) (0, at)
  filter_has p (y ∷ xs) x (suc i, at) passes = by (p y) (filter_has p xs x (i, at) passes)
    where
      by : (b : Bool) → IsIn x (filter p xs) → IsIn x (cond b (y ∷ filter p xs) (filter p xs))
      by true rest = in_more x y (filter p xs) rest
      by false rest = rest

  -- and nothing else
  pub filter_only : (p : X → Bool) (xs : List X) (x : X) → IsIn x (filter p xs) → IsIn x xs × (p x ≡ true)
  filter_only p [] x there = absurd (nowhere x there)
  filter_only p (y ∷ xs) x there = by (p y) refl there (filter_only p xs x)
    where
      by : (b : Bool) → p y ≡ b → IsIn x (cond b (y ∷ filter p xs) (filter p xs)) → (IsIn x (filter p xs) → IsIn x xs × (p x ≡ true))
          → IsIn x (y ∷ xs) × (p x ≡ true)
      by true test (zero, at) rest = ((0, at), ap p (sym (same_Some y x at)) ∙ test)
      by true test (suc i, at) rest = let (old, passes) = rest (i, at) in (in_more x y xs old, passes)
      by false test there rest = let (old, passes) = rest there in (in_more x y xs old, passes)

module _ {X : Type 0} (f : ℕ → X) where
  map_has : (ks : List ℕ) (k : ℕ) → IsIn k ks → IsIn (f k) (map f ks)
  map_has [] k there = absurd (nowhere k there)
  map_has (n ∷ ks) k (zero, at) = (0, ap (λ (m : ℕ). Some (f m)) (same_Some n k at))
  map_has (n ∷ ks) k (suc i, at) = in_more (f k) (f n) (map f ks) (map_has ks k (i, at))

  map_only : (ks : List ℕ) (x : X) → IsIn x (map f ks) → (k : ℕ) × IsIn k ks × (x ≡ f k)
  map_only [] x there = absurd (nowhere x there)
  map_only (n ∷ ks) x (zero, at) = (n, first_in n ks, sym (same_Some (f n) x at))
  map_only (n ∷ ks) x (suc i, at) = let (k, there, is) = map_only ks x (i, at) in (k, in_more k n ks there, is)

module _ {X : Type 0} (f : ℕ → List X) where
  flat_has : (ks : List ℕ) (k : ℕ) (x : X) → IsIn k ks → IsIn x (f k) → IsIn x (flat_map f ks)
  flat_has [] k x there one = absurd (nowhere k there)
  flat_has (n ∷ ks) k x (zero, at) one = in_left x (f n) (flat_map f ks) (subst (λ m. IsIn x (f m)) (sym (same_Some n k at)) one)
  flat_has (n ∷ ks) k x (suc i, at) one = in_right x (f n) (flat_map f ks) (flat_has ks k x (i, at) one)

  flat_only : (ks : List ℕ) (x : X) → IsIn x (flat_map f ks) → (k : ℕ) × IsIn k ks × IsIn x (f k)
  flat_only [] x there = absurd (nowhere x there)
  flat_only (n ∷ ks) x there = by (in_either x (f n) (flat_map f ks) there) (flat_only ks x)
    where
      by : IsIn x (f n) ⊎ IsIn x (flat_map f ks) → (IsIn x (flat_map f ks) → (k : ℕ) × IsIn k ks × IsIn x (f k))
          → (k : ℕ) × IsIn k (n ∷ ks) × IsIn x (f k)
      by (inl one) rest = (n, first_in n ks, one)
      by (inr more) rest = let (k, old, one) = rest more in (k, in_more k n ks old, one)

range_has : (a n k : ℕ) → a ≤ k → k < a + n → IsIn k (range_with_len a n)
range_has a zero k from to = absurd (omega (arith, from, to))
range_has a (suc n) k from to = by (a == k) refl (λ more. range_has (a + 1) n k more (omega (arith, to)))
  where
    by : (b : Bool) → (a == k) ≡ b → (a + 1 ≤ k → IsIn k (range_with_len (a + 1) n)) → IsIn k (a ∷ range_with_len (a + 1) n)
    by true is rest = (0, ap (λ (m : ℕ). Some m) (eqb-true a k is))
    by false is rest =
        let unlike : a ≡ k → ⊥ = λ same. true≢false (sym (eq-eqb a k same) ∙ is) in
        in_more k a (range_with_len (a + 1) n) (rest (omega (arith, unlike, from)))

range_only : (a n k : ℕ) → IsIn k (range_with_len a n) → k < a + n
range_only a zero k there = absurd (nowhere k there)
range_only a (suc n) k (zero, at) = let same = same_Some a k at in omega (arith, same)
range_only a (suc n) k (suc i, at) = let less = range_only (a + 1) n k (i, at) in omega (arith, less)

pub below_has : (n k : ℕ) → k < n → IsIn k (below n)
below_has n k less = range_has 0 n k (omega arith) (omega (arith, less))

below_only : (n k : ℕ) → IsIn k (below n) → k < n
below_only n k there = let less = range_only 0 n k there in omega (arith, less)

-- nobody is met, or the request at a place by one of its branches
abbrev pub IsPartner : ℕ → (ℕ → ℕ) → ℕ → ℕ → Type 0
IsPartner n branches p q = ((p ≡ 0) × (q ≡ 0)) ⊎ ((0 < p) × (0 < q) × (p - 1 < n) × (q - 1 < branches (p - 1)))

pub record IsTuple (n : ℕ) (branches : ℕ → ℕ) (t : Choice) : Type 0 where
  pub place : t.place < n
  pub branch : t.offer < branches t.place
  pub partner : IsPartner n branches t.partner t.partner_offer

one_more_is : (p : ℕ) → 0 < p → p - 1 + 1 ≡ p
one_more_is p some = omega (arith, some)

pub one_less_is : (p : ℕ) → p + 1 - 1 ≡ p
one_less_is p = omega arith

of_branch_has : (n : ℕ) (branches : ℕ → ℕ) (w k p q : ℕ) → IsPartner n branches p q → IsIn (choice w k p q) (of_branch n branches w k)
of_branch_has n branches w k p q (inl (none, no_branch)) =
    subst (λ c. IsIn c (of_branch n branches w k)) (λ i. choice w k (sym none i) (sym no_branch i))
    (first_in (choice w k 0 0) (flat_map (with_partner branches w k) (below n)))
of_branch_has n branches w k p q (inr (some, some_branch, less, within)) =
    subst (λ c. IsIn c (of_branch n branches w k)) (λ i. choice w k (one_more_is p some i) (one_more_is q some_branch i))
    (in_more (choice w k (p - 1 + 1) (q - 1 + 1)) (choice w k 0 0) (flat_map (with_partner branches w k) (below n))
    (flat_has (with_partner branches w k) (below n) (p - 1) (choice w k (p - 1 + 1) (q - 1 + 1)) (below_has n (p - 1) less)
    (map_has (λ m. choice w k (p - 1 + 1) (m + 1)) (below (branches (p - 1))) (q - 1) (below_has (branches (p - 1)) (q - 1) within))))

-- each of these is a tuple
pub tuple_there : (n : ℕ) (branches : ℕ → ℕ) (t : Choice) → IsTuple n branches t → IsIn t (tuples n branches)
tuple_there n branches t is =
    flat_has (λ w. flat_map (of_branch n branches w) (below (branches w))) (below n) t.place t (below_has n t.place is.place)
    (flat_has (of_branch n branches t.place) (below (branches t.place)) t.offer t (below_has (branches t.place) t.offer is.branch)
    (of_branch_has n branches t.place t.offer t.partner t.partner_offer is.partner))

of_branch_only : (n : ℕ) (branches : ℕ → ℕ) (w k : ℕ) (t : Choice) → w < n → k < branches w → IsIn t (of_branch n branches w k) → IsTuple n branches t
of_branch_only n branches w k t less within (zero, at) =
    subst (IsTuple n branches) (same_Some (choice w k 0 0) t at) (record { place = less; branch = within; partner = inl (refl, refl) })
of_branch_only n branches w k t less within (suc i, at) =
    let (r, r_in, one) = flat_only (with_partner branches w k) (below n) t (i, at) in
    let (q, q_in, is) = map_only (λ q. choice w k (r + 1) (q + 1)) (below (branches r)) t one in
    let r_less = below_only n r r_in in
    let q_less = below_only (branches r) q q_in in
    subst (IsTuple n branches) (sym is) record {
      place = less;
      branch = within;
      partner = inr (
        omega arith,
        omega arith,
        omega (arith, r_less),
        subst (λ m. m < branches (r + 1 - 1)) (sym (one_less_is q)) (subst (λ m. q < branches m) (sym (one_less_is r)) q_less),
      );
    }

-- and there is no other
pub tuple_only : (n : ℕ) (branches : ℕ → ℕ) (t : Choice) → IsIn t (tuples n branches) → IsTuple n branches t
tuple_only n branches t there =
    let (w, w_in, one) = flat_only (λ w. flat_map (of_branch n branches w) (below (branches w))) (below n) t there in
    let (k, k_in, two) = flat_only (of_branch n branches w) (below (branches w)) t one in
    of_branch_only n branches w k t (below_only n w w_in) (below_only (branches w) k k_in) two

-- a tuple of these requests
abbrev pub IsTupleOf : List Waiter → Choice → Type 0
IsTupleOf ws t = IsTuple (length ws) (branches_at ws) t

module _ (caps : ℕ → ℕ) (past : List Event) (ws : List Waiter) where
  pub choice_has : (t : Choice) → IsTupleOf ws t → is_choice caps past ws t ≡ true → IsIn t (choices caps past ws)
  choice_has t tuple is = filter_has (is_choice caps past ws) (tuples_of ws) t (tuple_there (length ws) (branches_at ws) t tuple) is

  pub choice_only : (t : Choice) → IsIn t (choices caps past ws) → IsTupleOf ws t × (is_choice caps past ws t ≡ true)
  choice_only t there =
      let (old, is) = filter_only (is_choice caps past ws) (tuples_of ws) t there in
      (tuple_only (length ws) (branches_at ws) t old, is)
