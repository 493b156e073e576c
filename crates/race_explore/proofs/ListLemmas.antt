-- Which lists of picks are left.
use Rattle.std.proofs.Common.{ℕ, ◌≡◌, ◌⊎◌, ◌<◌, ◌+◌, ◌++◌, Bool, true, false, List, [], ◌∷◌, Option, Some, None, refl, sym, ap, arith, inl, inr, true≢false}
use Rattle.std.specs.Prelude.{if◌then◌else◌, nat_lt}
use Rattle.std.proofs.Common.{◌≤◌, subst}
use Rattle.std.proofs.lemmas.{Bool.Decides.nat_tests, Option.none-some}
use Rattle.race_record.specs.declared.noting.Fork.{Fork}
use Rattle.race_explore.specs.Lists.{next_picks, After, IsLeft, HasPicks}

-- where there are no next picks, none comes later
no_next : (f : Fork) (forks : List Fork) → f.more ≡ true → next_picks (f ∷ forks) ≡ None → ⊥
no_next f forks more is = by (next_picks forks) f.more more is
  where
    by : (o : Option (List ℕ)) (b : Bool) → b ≡ true
        → ◌≡◌ {A = Option (List ℕ)} (elim o [ Some picks ↦ Some (f.pick ∷ picks) | None ↦ if b then Some ((f.pick + 1) ∷ []) else None ]) None → ⊥
    by (Some picks) b more is = none-some (f.pick ∷ picks) (sym is)
    by None true more is = none-some ((f.pick + 1) ∷ []) (sym is)
    by None false more is = true≢false (sym more)

rest_none : (f : Fork) (forks : List Fork) → next_picks (f ∷ forks) ≡ None → next_picks forks ≡ None
rest_none f forks is = by (next_picks forks) is
  where
    by : (o : Option (List ℕ))
        → ◌≡◌ {A = Option (List ℕ)} (elim o [ Some picks ↦ Some (f.pick ∷ picks) | None ↦ if f.more then Some ((f.pick + 1) ∷ []) else None ]) None → o ≡ None
    by (Some picks) is = absurd (none-some (f.pick ∷ picks) (sym is))
    by None is = refl

pub none_after : (forks others : List Fork) → After forks others → next_picks forks ≡ None → ⊥
none_after [] others after is = after
none_after (f ∷ forks) [] after is = after
none_after (f ∷ forks) (g ∷ others) (inl (same, after)) is = none_after forks others after (rest_none f forks is)
none_after (f ∷ forks) (g ∷ others) (inr (less, more)) is = no_next f forks more is

-- where the next picks come from
some_is : {X : Type 0} (x y : X) → Some x ≡ Some y → x ≡ y
some_is x y is = ap (λ o. elim o [ Some z ↦ z | None ↦ x ]) is

pub next_cases : (f : Fork) (forks : List Fork) (picks : List ℕ) → next_picks (f ∷ forks) ≡ Some picks
    → ((rest : List ℕ) × (next_picks forks ≡ Some rest) × (picks ≡ f.pick ∷ rest)) ⊎ ((next_picks forks ≡ None) × (f.more ≡ true) × (picks ≡ (f.pick + 1) ∷ []))
next_cases f forks picks is = by (next_picks forks) refl f.more refl is
  where
    by : (o : Option (List ℕ)) → next_picks forks ≡ o → (b : Bool) → f.more ≡ b
        → ◌≡◌ {A = Option (List ℕ)} (elim o [ Some rest ↦ Some (f.pick ∷ rest) | None ↦ if b then Some ((f.pick + 1) ∷ []) else None ]) (Some picks)
        → ((rest : List ℕ) × (next_picks forks ≡ Some rest) × (picks ≡ f.pick ∷ rest)) ⊎ ((next_picks forks ≡ None) × (f.more ≡ true) × (picks ≡ (f.pick + 1) ∷ []))
    by (Some rest) at b more is = inl (rest, at, sym (some_is (f.pick ∷ rest) picks is))
    by None at true more is = inr (at, more, sym (some_is ((f.pick + 1) ∷ []) picks is))
    by None at false more is = absurd (none-some picks is)

next_or_later : (p q : ℕ) → p < q → ((p + 1 ≡ q) × Unit {0}) ⊎ (p + 1 < q)
next_or_later p q less = by (nat_lt (p + 1) q) refl
  where
    by : (b : Bool) → nat_lt (p + 1) q ≡ b → ((p + 1 ≡ q) × Unit {0}) ⊎ (p + 1 < q)
    by true is = inr (grind (arith, nat_tests))
    by false is = let back : q ≤ p + 1 = grind (arith, nat_tests) in inl (omega (arith, back, less), tt)

-- a run that comes later than the last one made is left to the next picks
pub after_is_left : (forks others : List Fork) (picks : List ℕ) → After forks others → next_picks forks ≡ Some picks → IsLeft picks others
after_is_left [] others picks after is = absurd after
after_is_left (f ∷ forks) [] picks after is = absurd after
after_is_left (f ∷ forks) (g ∷ others) picks (inl (same, after)) is =
    by (next_cases f forks picks is) (λ rest at. after_is_left forks others rest after at)
  where
    by : ((rest : List ℕ) × (next_picks forks ≡ Some rest) × (picks ≡ f.pick ∷ rest)) ⊎ ((next_picks forks ≡ None) × (f.more ≡ true) × (picks ≡ (f.pick + 1) ∷ []))
        → ((rest : List ℕ) → next_picks forks ≡ Some rest → IsLeft rest others) → IsLeft picks (g ∷ others)
    by (inl (rest, at, picks_are)) left = subst (λ l. IsLeft l (g ∷ others)) (sym picks_are) (inl (same, left rest at))
    by (inr (none, more, picks_are)) left = absurd (none_after forks others after none)
after_is_left (f ∷ forks) (g ∷ others) picks (inr (less, more)) is = by (next_cases f forks picks is)
  where
    by : ((rest : List ℕ) × (next_picks forks ≡ Some rest) × (picks ≡ f.pick ∷ rest)) ⊎ ((next_picks forks ≡ None) × (f.more ≡ true) × (picks ≡ (f.pick + 1) ∷ []))
        → IsLeft picks (g ∷ others)
    by (inl (rest, at, picks_are)) = subst (λ l. IsLeft l (g ∷ others)) (sym picks_are) (inr less)
    by (inr (none, more, picks_are)) = subst (λ l. IsLeft l (g ∷ others)) (sym picks_are) (next_or_later f.pick g.pick less)

-- what is left to the picks doesn't come before the run that has them
pub none_before : (picks : List ℕ) (forks others : List Fork) → HasPicks picks forks → IsLeft picks others → After others forks → ⊥
none_before picks [] [] has left after = after
none_before picks [] (g ∷ others) has left after = after
none_before picks (f ∷ forks) [] has left after = after
none_before [] (f ∷ forks) (g ∷ others) has left (inl (same, after)) = none_before [] forks others has.1 tt after
none_before [] (f ∷ forks) (g ∷ others) has left (inr (less, more)) = let zero = has.0 in absurd (omega (arith, zero, less))
none_before (p ∷ picks) (f ∷ forks) (g ∷ others) has (inl (is, left)) (inl (same, after)) = none_before picks forks others has.1 left after
none_before (p ∷ picks) (f ∷ forks) (g ∷ others) has (inl (is, left)) (inr (less, more)) =
    let first = has.0 in absurd (omega (arith, first, is, less))
none_before (p ∷ picks) (f ∷ forks) (g ∷ others) has (inr later) (inl (same, after)) =
    let first = has.0 in absurd (omega (arith, first, same, later))
none_before (p ∷ picks) (f ∷ forks) (g ∷ others) has (inr later) (inr (less, more)) =
    let first = has.0 in absurd (omega (arith, first, less, later))

-- what comes later than some choices of a run comes later than the run
pub after_front : (kept rest others : List Fork) → After kept others → After (kept ++ rest) others
after_front [] rest others after = absurd after
after_front (f ∷ kept) rest [] after = absurd after
after_front (f ∷ kept) rest (g ∷ others) (inl (same, after)) = inl (same, after_front kept rest others after)
after_front (f ∷ kept) rest (g ∷ others) (inr less) = inr less

-- the picks of a run are those of its first choices
pub front_picks : (picks : List ℕ) (kept rest : List Fork) → HasPicks picks (kept ++ rest) → HasPicks picks kept
front_picks picks [] rest has = tt
front_picks [] (f ∷ kept) rest has = (has.0, front_picks [] kept rest has.1)
front_picks (p ∷ picks) (f ∷ kept) rest has = (has.0, front_picks picks kept rest has.1)
