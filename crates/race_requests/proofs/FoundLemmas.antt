-- How a search goes on from one part of a list to the next.
use Rattle.std.proofs.Common.{◌≡◌, ℕ, zero, suc, ◌+◌, ◌-◌, ◌<◌, ◌≤◌, Bool, false, cond, List, [], ◌∷◌, ◌++◌, length}
use Rattle.std.proofs.Common.{map, filter, flat_map, slice_get, refl, sym, ap, ◌∙◌, subst, arith, append-nil}
use Rattle.std.proofs.{Common.length-append, lemmas.{Grind.flat_map-append, List.Elements.filter-append}}
use Rattle.std.specs.List.{range_with_len}
use Rattle.race_model.proofs.Indexes.{append_at_old}
use Rattle.race_requests.specs.declared.{choice.Choice.Choice, search.Found.{Found, TheVariants.{At, Left}}}
use Rattle.race_requests.specs.{Choices.{below, choice, with_partner, of_branch}, Search.IsFound}

-- behind the first list an element stands by its number in the second one
behind : {X : Type 0} (xs ys : List X) (k m : ℕ) → k ≡ length xs + m → slice_get (xs ++ ys) k ≡ slice_get ys m
behind [] ys k m is = ap (slice_get ys) (let e : k ≡ m = omega arith in e)
behind (x ∷ xs) ys zero m is = absurd (omega arith)
behind (x ∷ xs) ys (suc k) m is = behind xs ys k m (omega arith)

-- what isn't found in the first list is looked for in the second one
pub found_next : (xs ys : List Choice) (k l : ℕ) (r : Found) → IsFound xs k (Left l) → IsFound ys l r → IsFound (xs ++ ys) k r
found_next xs ys k l (At c) first second = behind xs ys k l first ∙ second
found_next xs ys k l (Left m) first second = let e = length-append xs ys in omega (arith, e)

-- what is found in the first list is found in both
pub found_first : (xs ys : List Choice) (k : ℕ) (c : Choice) → IsFound xs k (At c) → IsFound (xs ++ ys) k (At c)
found_first xs ys k c first = append_at_old xs ys k c first

range_split : (m n a : ℕ) → range_with_len a (m + n) ≡ range_with_len a m ++ range_with_len (a + m) n
range_split zero n a = (λ i. range_with_len (let e : a ≡ a + 0 = omega arith in e i) (let e : 0 + n ≡ n = omega arith in e i))
range_split (suc m) n a =
    ap (range_with_len a) (let e : suc m + n ≡ suc (m + n) = omega arith in e)
    ∙ ap (λ xs. a ∷ xs) (range_split m n (a + 1))
    ∙ ap (λ b. a ∷ (range_with_len (a + 1) m ++ range_with_len b n)) (let e : a + 1 + m ≡ a + suc m = omega arith in e)

below_more : (i : ℕ) → below (i + 1) ≡ below i ++ i ∷ []
below_more i = range_split i 1 0 ∙ ap (λ b. below i ++ b ∷ []) (let e : 0 + i ≡ i = omega arith in e)

module _ (p : Choice → Bool) (f : ℕ → List Choice) where
  -- the pieces up to i, and then the one of i
  pieces_more : (i : ℕ) → filter p (flat_map f (below (i + 1))) ≡ filter p (flat_map f (below i)) ++ filter p (f i)
  pieces_more i =
      ap (λ xs. filter p (flat_map f xs)) (below_more i)
      ∙ ap (filter p) (flat_map-append f (below i) (i ∷ []))
      ∙ filter-append p (flat_map f (below i)) (f i ++ [])
      ∙ ap (λ xs. filter p (flat_map f (below i)) ++ filter p xs) (append-nil (f i))

  -- the pieces up to i and that of i stand first among all pieces
  pieces_within : (i n : ℕ) → i < n
      → filter p (flat_map f (below n)) ≡ filter p (flat_map f (below (i + 1))) ++ filter p (flat_map f (range_with_len (0 + (i + 1)) (n - (i + 1))))
  pieces_within i n less =
      ap (λ m. filter p (flat_map f (below m))) (let e : n ≡ i + 1 + (n - (i + 1)) = omega arith in e)
      ∙ ap (λ xs. filter p (flat_map f xs)) (range_split (i + 1) (n - (i + 1)) 0)
      ∙ ap (filter p) (flat_map-append f (below (i + 1)) (range_with_len (0 + (i + 1)) (n - (i + 1))))
      ∙ filter-append p (flat_map f (below (i + 1))) (flat_map f (range_with_len (0 + (i + 1)) (n - (i + 1))))

  -- what isn't found in the pieces before is looked for in the next one
  pub found_step : (i k l m : ℕ) → IsFound (filter p (flat_map f (below i))) k (Left l) → IsFound (filter p (f i)) l (Left m)
      → IsFound (filter p (flat_map f (below (i + 1)))) k (Left m)
  found_step i k l m first second =
      subst (λ xs. IsFound xs k (Left m)) (sym (pieces_more i))
      (found_next (filter p (flat_map f (below i))) (filter p (f i)) k l (Left m) first second)

  -- what is found in the next one is found among all
  pub found_at : (i n k l : ℕ) (c : Choice) → i < n → IsFound (filter p (flat_map f (below i))) k (Left l) → IsFound (filter p (f i)) l (At c)
      → IsFound (filter p (flat_map f (below n))) k (At c)
  found_at i n k l c less first second =
      subst (λ xs. IsFound xs k (At c)) (sym (pieces_within i n less))
      (found_first (filter p (flat_map f (below (i + 1)))) _ k c
      (subst (λ xs. IsFound xs k (At c)) (sym (pieces_more i))
      (found_next (filter p (flat_map f (below i))) (filter p (f i)) k l (At c) first second)))

  found_past : (d i k l : ℕ) → IsFound (filter p (flat_map f (below i))) k (Left l)
      → ((n : ℕ) → i ≤ n → n < i + d → filter p (f n) ≡ []) → IsFound (filter p (flat_map f (below (i + d)))) k (Left l)
  found_past zero i k l so_far none = subst (λ m. IsFound (filter p (flat_map f (below m))) k (Left l)) (let e : i ≡ i + 0 = omega arith in e) so_far
  found_past (suc d) i k l so_far none =
      let empty = ap length (none i (omega arith) (omega arith)) in
      subst (λ m. IsFound (filter p (flat_map f (below m))) k (Left l)) (let e : i + 1 + d ≡ i + suc d = omega arith in e)
      (found_past d (i + 1) k l (found_step i k l l so_far (omega (arith, empty)))
      (λ n at least. none n (omega (arith, at)) (omega (arith, least))))

  -- pieces from i up to j of which no element passes are passed by
  pub found_up_to : (i j k l : ℕ) → i ≤ j → IsFound (filter p (flat_map f (below i))) k (Left l)
      → ((n : ℕ) → i ≤ n → n < j → filter p (f n) ≡ []) → IsFound (filter p (flat_map f (below j))) k (Left l)
  found_up_to i j k l before so_far none =
      subst (λ m. IsFound (filter p (flat_map f (below m))) k (Left l)) (let e : i + (j - i) ≡ j = omega (arith, before) in e)
      (found_past (j - i) i k l so_far (λ n at least. none n at (omega (arith, least, before))))

-- nothing passes that fails the test at each number
pub filter_none : (p : Choice → Bool) (f : ℕ → Choice) → ((q : ℕ) → p (f q) ≡ false) → (xs : List ℕ) → filter p (map f xs) ≡ []
filter_none p f none [] = refl
filter_none p f none (x ∷ xs) = ap (λ b. cond b (f x ∷ filter p (map f xs)) (filter p (map f xs))) (none x) ∙ filter_none p f none xs

-- nothing passes of pieces of which nothing does
none_of_all : (p : Choice → Bool) (f : ℕ → List Choice) → ((i : ℕ) → filter p (f i) ≡ []) → (xs : List ℕ) → filter p (flat_map f xs) ≡ []
none_of_all p f none [] = refl
none_of_all p f none (x ∷ xs) =
    filter-append p (f x) (flat_map f xs) ∙ (λ i. none x i ++ filter p (flat_map f xs)) ∙ none_of_all p f none xs

-- nothing of a request passes that neither passes alone nor with another
pub none_of_stuck : (p : Choice → Bool) (n : ℕ) (branches : ℕ → ℕ) (w : ℕ) → ((k : ℕ) → p (choice w k 0 0) ≡ false)
    → ((k r q : ℕ) → p (choice w k (r + 1) (q + 1)) ≡ false) → (xs : List ℕ) → filter p (flat_map (of_branch n branches w) xs) ≡ []
none_of_stuck p n branches w alone meets = none_of_all p (of_branch n branches w) (λ k.
    ap (λ b. cond b (choice w k 0 0 ∷ filter p (flat_map (with_partner branches w k) (below n))) (filter p (flat_map (with_partner branches w k) (below n)))) (alone k)
    ∙ none_of_all p (with_partner branches w k) (λ r. filter_none p (λ q. choice w k (r + 1) (q + 1)) (meets k r) (below (branches r))) (below n))
