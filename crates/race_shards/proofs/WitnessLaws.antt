-- The list of a race is a reordering.
use Rattle.std.proofs.Common.{◌≡◌, ◌≢◌, ◌⊎◌, ℕ, zero, suc, ◌+◌, ◌<◌, List, [], ◌∷◌, ◌++◌, Some, length, slice_get, refl}
use Rattle.std.proofs.{Common.{sym, ap, ◌∙◌, subst, inl, inr, arith}, lemmas.Bool.{cases_order, cases_eq}}
use Rattle.std.proofs.lemmas.Option.{slice_get_within}
use Rattle.race_records.specs.declared.event.Event.{Event}
use Rattle.race_model.specs.{Order.HappensBefore, Race.IsRace, Reorder.{IsAccess, IsReordering, StandsBefore}}
use Rattle.race_model.proofs.{Indexes.{at_same, append_at_old}, Ranks.happens_before_up, BeforeSeen.happens_before_on}
use Rattle.race_model.proofs.ReorderLemmas.{access_passes}
use Rattle.race_shards.specs.Witness.{IsBeforeEither, IsEarly, IsOther, AreAll, IsWitnessList, StandsNext}

-- a number stands in the list, or it doesn't
stands_or_not : (xs : List ℕ) (a : ℕ) → ((k : ℕ) × (slice_get xs k ≡ Some a)) ⊎ ((k : ℕ) → slice_get xs k ≡ Some a → ⊥)
stands_or_not [] a = inr (λ k at. cc)
stands_or_not (x ∷ xs) a = go (cases_eq x a) (stands_or_not xs a)
  where
    go : (x ≡ a) ⊎ (x ≢ a) → ((k : ℕ) × (slice_get xs k ≡ Some a)) ⊎ ((k : ℕ) → slice_get xs k ≡ Some a → ⊥)
        → ((k : ℕ) × (slice_get (x ∷ xs) k ≡ Some a)) ⊎ ((k : ℕ) → slice_get (x ∷ xs) k ≡ Some a → ⊥)
    go (inl same) rest = inl (zero, ap Some same)
    go (inr differ) (inl (k, at)) = inl (suc k, at)
    go (inr differ) (inr none) = inr none_here
      where
        none_here : (k : ℕ) → slice_get (x ∷ xs) k ≡ Some a → ⊥
        none_here zero at = differ (let same : x ≡ a = cc in same)
        none_here (suc k) at = none k at

-- what stands behind a list
append_behind : (xs ys : List ℕ) (m : ℕ) → slice_get (xs ++ ys) (length xs + m) ≡ slice_get ys m
append_behind [] ys m = ap (slice_get ys) (let same : 0 + m ≡ m = omega arith in same)
append_behind (x ∷ xs) ys m =
    let same : length (x ∷ xs) + m ≡ suc (length xs + m) = omega arith in
    ap (slice_get (x ∷ xs ++ ys)) same ∙ append_behind xs ys m

-- where in such a list a number stands
data Place (early others : List ℕ) (j i k a : ℕ) : Type 0 where
  at_early : slice_get early k ≡ Some a → Place early others j i k a
  at_second : k ≡ length early → a ≡ j → Place early others j i k a
  at_first : k ≡ length early + 1 → a ≡ i → Place early others j i k a
  at_others : (m : ℕ) → k ≡ length early + 2 + m → slice_get others m ≡ Some a → Place early others j i k a

place_of : (early others : List ℕ) (j i k a : ℕ) → slice_get (early ++ j ∷ i ∷ others) k ≡ Some a → Place early others j i k a
place_of [] others j i zero a at = at_second refl (let same : a ≡ j = cc in same)
place_of [] others j i (suc zero) a at = at_first refl (let same : a ≡ i = cc in same)
place_of [] others j i (suc (suc k)) a at = at_others k (omega arith) at
place_of (x ∷ early) others j i zero a at = at_early at
place_of (x ∷ early) others j i (suc k) a at = go (place_of early others j i k a at)
  where
    go : Place early others j i k a → Place (x ∷ early) others j i (suc k) a
    go (at_early here) = at_early here
    go (at_second place is) = at_second (omega (arith, place)) is
    go (at_first place is) = at_first (omega (arith, place)) is
    go (at_others m place here) = at_others m (omega (arith, place)) here

module _ (caps : ℕ → ℕ) (events : List Event) (x i j : ℕ) (race : IsRace caps events x i j) where
  -- neither of the two happens before either
  first_not_before : ¬ IsBeforeEither caps events i j i
  first_not_before (inl own) = let up : i < i = happens_before_up caps events i i own in absurd (omega (arith, up))
  first_not_before (inr before) = race.not_before before

  second_not_before : ¬ IsBeforeEither caps events i j j
  second_not_before (inl before) = race.not_after before
  second_not_before (inr own) = let up : j < j = happens_before_up caps events j j own in absurd (omega (arith, up))

  -- what happens before what does, does
  down : (a b : ℕ) → HappensBefore caps events a b → IsBeforeEither caps events i j b → IsBeforeEither caps events i j a
  down a b before (inl first) = inl (happens_before_on caps events a b i before first)
  down a b before (inr second) = inr (happens_before_on caps events a b j before second)

  module _ (early others : List ℕ) (E : AreAll (IsEarly caps events i j) early) (O : AreAll (IsOther caps events i j) others) where
    abbrev order : List ℕ
    order = early ++ j ∷ i ∷ others

    place : (k a : ℕ) → slice_get order k ≡ Some a → Place early others j i k a
    place k a at = place_of early others j i k a at

    -- an early place is that of an early access
    early_at : (k a : ℕ) → slice_get early k ≡ Some a → IsBeforeEither caps events i j a
    early_at k a at = (E.only k a at).1

    -- and another place that of another
    other_at : (m a : ℕ) → slice_get others m ≡ Some a → IsOther caps events i j a
    other_at m a at = O.only m a at

    -- no number stands twice
    not_twice : (k m a : ℕ) → k < m → Place early others j i k a → Place early others j i m a → ⊥
    not_twice k m a less (at_early atk) (at_early atm) = let up : a < a = E.rising k m a a less atk atm in absurd (omega (arith, up))
    not_twice k m a less (at_early atk) (at_second pm is) = second_not_before (subst (IsBeforeEither caps events i j) is (early_at k a atk))
    not_twice k m a less (at_early atk) (at_first pm is) = first_not_before (subst (IsBeforeEither caps events i j) is (early_at k a atk))
    not_twice k m a less (at_early atk) (at_others n pm atm) = (other_at n a atm).3 (early_at k a atk)
    not_twice k m a less (at_second pk is) (at_early atm) = let short = slice_get_within early m a atm in absurd (omega (arith, less, pk, short))
    not_twice k m a less (at_second pk is) (at_second pm too) = absurd (omega (arith, less, pk, pm))
    not_twice k m a less (at_second pk is) (at_first pm too) = race.conflict.0 (sym too ∙ is)
    not_twice k m a less (at_second pk is) (at_others n pm atm) = (other_at n a atm).2 is
    not_twice k m a less (at_first pk is) (at_early atm) = let short = slice_get_within early m a atm in absurd (omega (arith, less, pk, short))
    not_twice k m a less (at_first pk is) (at_second pm too) = absurd (omega (arith, less, pk, pm))
    not_twice k m a less (at_first pk is) (at_first pm too) = absurd (omega (arith, less, pk, pm))
    not_twice k m a less (at_first pk is) (at_others n pm atm) = (other_at n a atm).1 is
    not_twice k m a less (at_others n pk atk) (at_early atm) = let short = slice_get_within early m a atm in absurd (omega (arith, less, pk, short))
    not_twice k m a less (at_others n pk atk) (at_second pm too) = absurd (omega (arith, less, pk, pm))
    not_twice k m a less (at_others n pk atk) (at_first pm too) = absurd (omega (arith, less, pk, pm))
    not_twice k m a less (at_others n pk atk) (at_others o pm atm) =
        let up : a < a = O.rising n o a a (omega (arith, less, pk, pm)) atk atm in absurd (omega (arith, up))

    -- a stands at k, and b, which happens before either, at m in front of it: then a doesn't happen before b
    not_behind_early : (k m a b : ℕ) → m < k → Place early others j i k a → m < length early + 2 → HappensBefore caps events a b
        → IsBeforeEither caps events i j a → (slice_get early m ≡ Some b) ⊎ (length early < m + 1) → ⊥
    not_behind_early k m a b less (at_early atk) under h before (inl atm) =
        let up : a < b = happens_before_up caps events a b h in
        let down : b < a = E.rising m k b a less atm atk in
        absurd (omega (arith, up, down))
    not_behind_early k m a b less (at_early atk) under h before (inr late) = let short = slice_get_within early k a atk in absurd (omega (arith, less, late, short))
    not_behind_early k m a b less (at_second pk is) under h before late = second_not_before (subst (IsBeforeEither caps events i j) is before)
    not_behind_early k m a b less (at_first pk is) under h before late = first_not_before (subst (IsBeforeEither caps events i j) is before)
    not_behind_early k m a b less (at_others n pk atk) under h before late = (other_at n a atk).3 before

    not_behind : (k m a b : ℕ) → m < k → Place early others j i k a → Place early others j i m b → HappensBefore caps events a b → ⊥
    not_behind k m a b less pa (at_early atm) h =
        let short = slice_get_within early m b atm in
        not_behind_early k m a b less pa (omega (arith, short)) h (down a b h (early_at m b atm)) (inl atm)
    not_behind k m a b less pa (at_second pm is) h =
        not_behind_early k m a b less pa (omega (arith, pm)) h (inr (subst (HappensBefore caps events a) is h)) (inr (omega (arith, pm)))
    not_behind k m a b less pa (at_first pm is) h =
        not_behind_early k m a b less pa (omega (arith, pm)) h (inl (subst (HappensBefore caps events a) is h)) (inr (omega (arith, pm)))
    not_behind k m a b less (at_early atk) (at_others n pm atm) h = let short = slice_get_within early k a atk in absurd (omega (arith, less, pm, short))
    not_behind k m a b less (at_second pk is) (at_others n pm atm) h = absurd (omega (arith, less, pk, pm))
    not_behind k m a b less (at_first pk is) (at_others n pm atm) h = absurd (omega (arith, less, pk, pm))
    not_behind k m a b less (at_others o pk atk) (at_others n pm atm) h =
        let up : a < b = happens_before_up caps events a b h in
        let down : b < a = O.rising n o b a (omega (arith, less, pk, pm)) atm atk in
        absurd (omega (arith, up, down))

    -- what stands in the list is an access
    only_accesses : (k a : ℕ) → Place early others j i k a → IsAccess events a
    only_accesses k a (at_early at) = (E.only k a at).0
    only_accesses k a (at_second p is) = subst (IsAccess events) (sym is) (access_passes caps events x j race.conflict.2)
    only_accesses k a (at_first p is) = subst (IsAccess events) (sym is) (access_passes caps events x i race.conflict.1)
    only_accesses k a (at_others m p at) = (other_at m a at).0

    -- the two stand side by side
    second_at : slice_get order (length early) ≡ Some j
    second_at = ap (slice_get order) (let same : length early ≡ length early + 0 = omega arith in same) ∙ append_behind early (j ∷ i ∷ others) 0

    first_at : slice_get order (length early + 1) ≡ Some i
    first_at = append_behind early (j ∷ i ∷ others) 1

    other_place : (m a : ℕ) → slice_get others m ≡ Some a → slice_get order (length early + suc (suc m)) ≡ Some a
    other_place m a at = append_behind early (j ∷ i ∷ others) (suc (suc m)) ∙ at

    -- each access stands in it
    each_access : (a : ℕ) → IsAccess events a → (k : ℕ) × (slice_get order k ≡ Some a)
    each_access a is = elim (stands_or_not order a) [
      | inl found ↦ found
      | inr none ↦
          let not_i : a ≢ i = λ same. none (length early + 1) (first_at ∙ ap Some (sym same)) in
          let not_j : a ≢ j = λ same. none (length early) (second_at ∙ ap Some (sym same)) in
          let not_before : ¬ IsBeforeEither caps events i j a =
          λ before. let at = E.each a (is, before) in none at.0 (append_at_old early (j ∷ i ∷ others) at.0 a at.1) in
          let at = O.each a (is, not_i, not_j, not_before) in
          absurd (none (length early + suc (suc at.0)) (other_place at.0 a at.1))
    ]

    pub is_reordering : IsReordering caps events (early ++ j ∷ i ∷ others)
    is_reordering = record {
      only = λ k a at. only_accesses k a (place k a at);
      each = each_access;
      once = λ k m a atk atm. elim (cases_order k m) [
        | inl same ↦ same
        | inr (inl less) ↦ absurd (not_twice k m a less (place k a atk) (place m a atm))
        | inr (inr more) ↦ absurd (not_twice m k a more (place m a atm) (place k a atk))
      ];
      kept = λ a b is_a is_b h. in_order a b h (each_access a is_a) (each_access b is_b);
    }
      where
        in_order : (a b : ℕ) → HappensBefore caps events a b → ((k : ℕ) × (slice_get order k ≡ Some a)) → ((m : ℕ) × (slice_get order m ≡ Some b)) → StandsBefore order a b
        in_order a b h (k, atk) (m, atm) = elim (cases_order k m) [
          | inl same ↦
              let one : a ≡ b = at_same order k a b atk (ap (slice_get order) same ∙ atm) in
              let up : a < b = happens_before_up caps events a b h in
              absurd (omega (arith, one, up))
          | inr (inl less) ↦ (k, m, less, atk, atm)
          | inr (inr more) ↦ absurd (not_behind k m a b more (place k a atk) (place m b atm) h)
        ]

    pub stands_next : StandsNext (early ++ j ∷ i ∷ others) j i
    stands_next = (length early, second_at, first_at)

pub list_is_reordering : (caps : ℕ → ℕ) (events : List Event) (x i j : ℕ) (list : List ℕ) → IsRace caps events x i j → IsWitnessList caps events i j list
    → IsReordering caps events list × StandsNext list j i
list_is_reordering caps events x i j list race is =
    subst (λ xs. IsReordering caps events xs × StandsNext xs j i) (sym is.list) (
      is_reordering caps events x i j race is.early is.others is.all_early is.all_others,
      stands_next caps events x i j race is.early is.others is.all_early is.all_others,
    )

-- rising lists of the same numbers are one
abbrev Rises : List ℕ → Type 0
Rises xs = (k m a b : ℕ) → k < m → slice_get xs k ≡ Some a → slice_get xs m ≡ Some b → a < b

abbrev Stands : List ℕ → ℕ → Type 0
Stands xs a = (k : ℕ) × (slice_get xs k ≡ Some a)

rises_tail : (x : ℕ) (xs : List ℕ) → Rises (x ∷ xs) → Rises xs
rises_tail x xs up k m a b less atk atm = up (suc k) (suc m) a b (omega (arith, less)) atk atm

same_numbers : (xs ys : List ℕ) → Rises xs → Rises ys → ((a : ℕ) → Stands xs a → Stands ys a) → ((a : ℕ) → Stands ys a → Stands xs a) → xs ≡ ys
same_numbers [] [] up too there back = refl
same_numbers [] (y ∷ ys) up too there back = absurd (let at = back y (zero, refl) in none at.0 at.1)
  where
    none : (k : ℕ) → slice_get [] k ≡ Some y → ⊥
    none k at = cc
same_numbers (x ∷ xs) [] up too there back = absurd (let at = there x (zero, refl) in none at.0 at.1)
  where
    none : (k : ℕ) → slice_get [] k ≡ Some x → ⊥
    none k at = cc
same_numbers (x ∷ xs) (y ∷ ys) up too there back = ap (λ z. z ∷ xs) heads ∙ ap (λ zs. y ∷ zs)
    (same_numbers xs ys (rises_tail x xs up) (rises_tail y ys too)
    (λ a at. tail_of y ys a (more x xs a up at heads) (there a (suc at.0, at.1)))
    (λ a at. tail_of x xs a (more y ys a too at (sym heads)) (back a (suc at.0, at.1))))
  where
    -- the first number is the least
    least : (z : ℕ) (zs : List ℕ) (a : ℕ) → Rises (z ∷ zs) → Stands (z ∷ zs) a → (z ≡ a) ⊎ (z < a)
    least z zs a rise (zero, at) = inl (let same : z ≡ a = cc in same)
    least z zs a rise (suc k, at) = inr (rise zero (suc k) z a (omega arith) refl at)

    heads : x ≡ y
    heads = go (least x xs y up (back y (zero, refl))) (least y ys x too (there x (zero, refl)))
      where
        go : (x ≡ y) ⊎ (x < y) → (y ≡ x) ⊎ (y < x) → x ≡ y
        go (inl same) other = same
        go (inr less) (inl same) = sym same
        go (inr less) (inr more) = absurd (omega (arith, less, more))

    -- what stands behind one's first number isn't the other's
    more : (z : ℕ) (zs : List ℕ) (a : ℕ) → Rises (z ∷ zs) → Stands zs a → {w : ℕ} → z ≡ w → w < a
    more z zs a rise (k, at) same = let less : z < a = rise zero (suc k) z a (omega arith) refl at in subst (λ w. w < a) same less

    tail_of : (z : ℕ) (zs : List ℕ) (a : ℕ) → z < a → Stands (z ∷ zs) a → Stands zs a
    tail_of z zs a less (zero, at) = absurd (let same : z ≡ a = cc in omega (arith, less, same))
    tail_of z zs a less (suc k, at) = (k, at)

all_one : (P : ℕ → Type 0) (xs ys : List ℕ) → AreAll P xs → AreAll P ys → xs ≡ ys
all_one P xs ys X Y = same_numbers xs ys X.rising Y.rising (λ a at. Y.each a (X.only at.0 a at.1)) (λ a at. X.each a (Y.only at.0 a at.1))

pub list_is_one : (caps : ℕ → ℕ) (events : List Event) (i j : ℕ) (one two : List ℕ) → IsWitnessList caps events i j one → IsWitnessList caps events i j two → one ≡ two
list_is_one caps events i j one two a b =
    a.list ∙ ap (λ xs. xs ++ j ∷ i ∷ a.others) (all_one (IsEarly caps events i j) a.early b.early a.all_early b.all_early)
    ∙ ap (λ xs. b.early ++ j ∷ i ∷ xs) (all_one (IsOther caps events i j) a.others b.others a.all_others b.all_others) ∙ sym b.list
