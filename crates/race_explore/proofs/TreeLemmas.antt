-- Ways through a tree of choices: one that ends goes on behind another, or at the first event in which they differ one has the greater number.
use Rattle.std.proofs.Common.{ℕ, ◌≡◌, ◌⊎◌, ◌<◌, ◌≤◌, ◌+◌, ◌++◌, Bool, true, false, List, [], ◌∷◌, length, Some, None, refl, sym, arith, inl, inr, subst}
use Rattle.std.specs.Prelude.{nat_lt}
use Rattle.std.proofs.lemmas.{Bool.Decides.nat_tests, Option.none-some}
use Rattle.race_record.specs.declared.noting.Fork.{Fork}
use Rattle.race_explore.specs.{Lists.{next_picks, After, IsLeft, HasPicks}, Ways.{Way, fork_of, here, turned, fired}}
use Rattle.race_explore.proofs.{ListLemmas.{next_cases, none_before}, OneStep.{head_is, tail_is}}

module _ {S : Type 0} (Turns : S → S → Type 0) (Fires : ℕ → S → S → Type 0) (count : S → ℕ) where
  -- one turn more
  pub way_turned : {a b c : S} {forks : List Fork} → Way Turns Fires count a forks b → Turns b c → Way Turns Fires count a forks c
  way_turned here turn = turned turn here
  way_turned (turned first way) turn = turned first (way_turned way turn)
  way_turned (fired pick first way) turn = fired pick first (way_turned way turn)

  -- one event more
  pub way_fired : {a b c : S} {forks : List Fork} (pick : ℕ) → Way Turns Fires count a forks b → Fires pick b c → Way Turns Fires count a (forks ++ fork_of (count b) pick ∷ []) c
  way_fired pick here fire = fired pick fire here
  way_fired pick (turned first way) fire = turned first (way_fired pick way fire)
  way_fired pick (fired earlier first way) fire = fired earlier first (way_fired pick way fire)

  -- a way by some choices and others goes by the ones, and then by the others
  pub split_way : {a c : S} {forks : List Fork} → Way Turns Fires count a forks c → (kept rest : List Fork) → forks ≡ kept ++ rest
      → (b : S) × Way Turns Fires count a kept b × Way Turns Fires count b rest c
  split_way {a = a} here [] rest is = (a, here, subst (λ l. Way Turns Fires count a l a) is here)
  split_way here (f ∷ kept) rest is = cc
  split_way (turned turn way) kept rest is =
      let (b, front, back) = split_way way kept rest is in
      (b, turned turn front, back)
  split_way {a = a} {c = c} (fired pick fire way) [] rest is = (a, here, subst (λ l. Way Turns Fires count a l c) is (fired pick fire way))
  split_way {a = a} (fired {forks = forks} pick fire way) (f ∷ kept) rest is =
      let (b, front, back) = split_way way kept rest (tail_is (fork_of (count a) pick) f forks (kept ++ rest) is) in
      (b, subst (λ g. Way Turns Fires count a (g ∷ kept) b) (head_is (fork_of (count a) pick) f forks (kept ++ rest) is) (fired pick fire front), back)

module _ {S : Type 0} (Turns : S → S → Type 0) (Fires : ℕ → S → S → Type 0) (count : S → ℕ) (Ended : S → Type 0)
    (one_turn : (a b c : S) → Turns a b → Turns a c → b ≡ c)
    (one_fire : (pick : ℕ) (a b c : S) → Fires pick a b → Fires pick a c → b ≡ c)
    (apart : (pick : ℕ) (a b c : S) → Turns a b → Fires pick a c → ⊥)
    (ended_turn : (a b : S) → Ended a → Turns a b → ⊥)
    (ended_fire : (pick : ℕ) (a b : S) → Ended a → Fires pick a b → ⊥)
    (some : (pick : ℕ) (a b : S) → Fires pick a b → 0 < count a)
  where
    -- by the choice of a number that there is
    abbrev pub Chosen : ℕ → S → S → Type 0
    Chosen pick a b = (pick < count a) × Fires pick a b

    -- so it is by choices
    pub by_fires : {a b : S} {forks : List Fork} → Way Turns Chosen count a forks b → Way Turns Fires count a forks b
    by_fires here = here
    by_fires (turned turn way) = turned turn (by_fires way)
    by_fires (fired pick fire way) = fired pick fire.1 (by_fires way)

    below_both : (p q : ℕ) → (p < q) ⊎ ((p ≡ q) ⊎ (q < p))
    below_both p q = by (nat_lt p q) refl (nat_lt q p) refl
      where
        by : (a : Bool) → nat_lt p q ≡ a → (b : Bool) → nat_lt q p ≡ b → (p < q) ⊎ ((p ≡ q) ⊎ (q < p))
        by true less b other = inl (grind (arith, nat_tests))
        by false less true other = inr (inr (grind (arith, nat_tests)))
        by false less false other =
            let up : q ≤ p = grind (arith, nat_tests) in
            let down : p ≤ q = grind (arith, nat_tests) in
            inr (inl (omega (arith, up, down)))

    has_more : (p q n : ℕ) → p < q → q < n → nat_lt (p + 1) n ≡ true
    has_more p q n less within = let next : p + 1 < n = omega (arith, less, within) in grind (arith, nat_tests)

    -- the second way goes by the choices of the first to its end, and on
    abbrev pub Through : S → List Fork → List Fork → S → Type 0
    Through b kept others c = (rest : List Fork) × (others ≡ kept ++ rest) × Way Turns Chosen count b rest c

    -- how a way that ends is to another one, which needn't end
    abbrev pub Compared : S → S → List Fork → List Fork → Type 0
    Compared b c kept others = Through b kept others c ⊎ (After kept others ⊎ After others kept)

    by_first : (n p q : ℕ) (b c : S) (kept others : List Fork) → p < n → q < n → (p ≡ q → Compared b c kept others)
        → Compared b c (fork_of n p ∷ kept) (fork_of n q ∷ others)
    by_first n p q b c kept others p_in q_in rest = by (below_both p q)
      where
        behind : p ≡ q → Compared b c kept others → Compared b c (fork_of n p ∷ kept) (fork_of n q ∷ others)
        behind same (inl (rest, is, way)) = inl (rest, (λ i. fork_of n (sym same i) ∷ is i), way)
        behind same (inr (inl after)) = inr (inl (inl (same, after)))
        behind same (inr (inr after)) = inr (inr (inl (sym same, after)))

        by : (p < q) ⊎ ((p ≡ q) ⊎ (q < p)) → Compared b c (fork_of n p ∷ kept) (fork_of n q ∷ others)
        by (inl less) = inr (inl (inr (less, has_more p q n less q_in)))
        by (inr (inl same)) = behind same (rest same)
        by (inr (inr less)) = inr (inr (inr (less, has_more q p n less p_in)))

    pub compared : {a b c : S} {kept others : List Fork} → Way Turns Chosen count a kept b → Way Turns Chosen count a others c → Ended c
        → Compared b c kept others
    compared {others = others} here way ec = inl (others, refl, way)
    compared (turned turn way) here ec = absurd (ended_turn _ _ ec turn)
    compared {c = c} {others = others} (turned turn way) (turned other way2) ec =
        compared way (subst (λ s. Way Turns Chosen count s others c) (one_turn _ _ _ other turn) way2) ec
    compared (turned turn way) (fired pick fire way2) ec = absurd (apart pick _ _ _ turn fire.1)
    compared (fired pick fire way) here ec = absurd (ended_fire pick _ _ ec fire.1)
    compared (fired pick fire way) (turned turn way2) ec = absurd (apart pick _ _ _ turn fire.1)
    compared {a = a} {b = b} {c = c} (fired {forks = kept} pick fire way) (fired {b = next} {forks = others} pick2 fire2 way2) ec =
        by_first (count a) pick pick2 b c kept others fire.0 fire2.0
        (λ same. compared way (subst (λ s. Way Turns Chosen count s others c)
        (one_fire pick _ _ _ (subst (λ p. Fires p a next) (sym same) fire2.1) fire.1) way2) ec)

    -- where the first has ended, too, nothing is left to go
    pub at_end_already : {b c : S} {rest : List Fork} → Ended b → Way Turns Chosen count b rest c → b ≡ c
    at_end_already eb here = refl
    at_end_already eb (turned turn way) = absurd (ended_turn _ _ eb turn)
    at_end_already eb (fired pick fire way) = absurd (ended_fire pick _ _ eb fire.1)

    -- where one way has an event, so has each that ends
    pub has_event : {a b c : S} {forks others : List Fork} → Way Turns Chosen count a forks b → 0 < length forks → Way Turns Chosen count a others c → Ended c
        → 0 < length others
    has_event here some way ec = absurd (omega (arith, some))
    has_event (turned turn way) some here ec = absurd (ended_turn _ _ ec turn)
    has_event {c = c} {others = others} (turned turn way) some (turned other way2) ec =
        has_event way some (subst (λ s. Way Turns Chosen count s others c) (one_turn _ _ _ other turn) way2) ec
    has_event (turned turn way) some (fired pick fire way2) ec = omega arith
    has_event (fired pick fire way) some here ec = absurd (ended_fire pick _ _ ec fire.1)
    has_event (fired pick fire way) some (turned turn way2) ec = absurd (apart pick _ _ _ turn fire.1)
    has_event (fired pick fire way) some (fired pick2 fire2 way2) ec = omega arith

    -- with these picks and then 0 each is the number of a choice
    pub zeros : {a b : S} {forks : List Fork} → Way Turns Fires count a forks b → HasPicks [] forks → Way Turns Chosen count a forks b
    zeros here has = here
    zeros (turned turn way) has = turned turn (zeros way has)
    zeros {a = a} (fired {b = b} pick fire way) has =
        let there : 0 < count a = some pick a b fire in
        let zero : pick ≡ 0 = has.0 in
        fired pick (omega (arith, there, zero), fire) (zeros way has.1)

    -- so it is with the next picks behind some choices, and the run that has them comes later
    pub revisits : {a b c : S} {forks others : List Fork} (picks : List ℕ) → Way Turns Chosen count a forks b → Way Turns Fires count a others c
        → Ended c → next_picks forks ≡ Some picks → HasPicks picks others → Way Turns Chosen count a others c × After forks others
    revisits picks here here ec is has = absurd (none-some picks is)
    revisits picks here (turned turn way) ec is has = absurd (none-some picks is)
    revisits picks here (fired pick fire way) ec is has = absurd (none-some picks is)
    revisits picks (turned turn way) here ec is has = absurd (ended_turn _ _ ec turn)
    revisits {c = c} {others = others} picks (turned turn way) (turned other way2) ec is has =
        let (valid, after) = revisits picks way (subst (λ s. Way Turns Fires count s others c) (one_turn _ _ _ other turn) way2) ec is has in
        (turned turn valid, after)
    revisits picks (turned turn way) (fired pick fire way2) ec is has = absurd (apart pick _ _ _ turn fire)
    revisits picks (fired pick fire way) here ec is has = absurd (ended_fire pick _ _ ec fire.1)
    revisits picks (fired pick fire way) (turned turn way2) ec is has = absurd (apart pick _ _ _ turn fire.1)
    revisits {a = a} {c = c} picks (fired {b = b} {forks = forks} pick fire way) (fired {b = next} {forks = others} pick2 fire2 way2) ec is has =
        by (next_cases (fork_of (count a) pick) forks picks is)
        (λ rest same at rest_has. revisits rest way (subst (λ s. Way Turns Fires count s others c)
        (one_fire pick _ _ _ (subst (λ p. Fires p a next) same fire2) fire.1) way2) ec at rest_has)
      where
        by : ((rest : List ℕ) × (next_picks forks ≡ Some rest) × (picks ≡ pick ∷ rest))
            ⊎ ((next_picks forks ≡ None) × (nat_lt (pick + 1) (count a) ≡ true) × (picks ≡ (pick + 1) ∷ []))
            → ((rest : List ℕ) → pick2 ≡ pick → next_picks forks ≡ Some rest → HasPicks rest others → Way Turns Chosen count b others c × After forks others)
            → Way Turns Chosen count a (fork_of (count a) pick2 ∷ others) c × After (fork_of (count a) pick ∷ forks) (fork_of (count a) pick2 ∷ others)
        by (inl (rest, at, picks_are)) goes =
            let begins = subst (λ l. HasPicks l (fork_of (count a) pick2 ∷ others)) picks_are has in
            let (valid, after) = goes rest begins.0 at begins.1 in
            let within : pick2 < count a = subst (λ p. p < count a) (sym begins.0) fire.0 in
            (fired pick2 (within, subst (λ p. Fires p a b) (sym begins.0) fire.1) valid, inl (sym begins.0, after))
        by (inr (none, more, picks_are)) goes =
            let begins = subst (λ l. HasPicks l (fork_of (count a) pick2 ∷ others)) picks_are has in
            let less : pick < pick2 = (let same = begins.0 in omega (arith, same)) in
            let in_range : pick + 1 < count a = grind (arith, nat_tests) in
            let within : pick2 < count a = subst (λ p. p < count a) (sym begins.0) in_range in
            (fired pick2 (within, fire2) (zeros way2 begins.1), inr (less, more))

    -- of two ways of which the second ends, and is left to the picks of the first, the second goes on behind the first, or comes later
    pub through_or_later : {a b c : S} {kept others : List Fork} (picks : List ℕ) → HasPicks picks kept → Way Turns Chosen count a kept b
        → Way Turns Chosen count a others c → Ended c → IsLeft picks others → Through b kept others c ⊎ After kept others
    through_or_later {b = b} {c = c} {kept = kept} {others = others} picks has way other ec left = by (compared way other ec)
      where
        by : Through b kept others c ⊎ (After kept others ⊎ After others kept) → Through b kept others c ⊎ After kept others
        by (inl through) = inl through
        by (inr (inl after)) = inr after
        by (inr (inr after)) = absurd (none_before picks kept others has left after)
