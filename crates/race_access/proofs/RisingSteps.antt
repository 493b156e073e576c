-- The kept Reads stand in rising order of their goroutines, and go on standing so.
use Rattle.std.proofs.Common.{◌≡◌, ◌≢◌, ℕ, zero, suc, ◌+◌, ◌<◌, ◌≤◌, List, [], ◌∷◌, length, get_or, All, sym, subst}
use Rattle.std.proofs.{Common.{◌∙◌, inl, inr, arith}, Math.ListN.set, lemmas.Bool.{cases_lt, cases_order}}
use Rattle.std.proofs.lemmas.List.{length-set, get_or-set_other, Edits.{length-insert, get_or-insert_at}}
use Rattle.std.proofs.lemmas.List.Edits.{get_or-insert_below, get_or-insert_above}
use Rattle.std.proofs.lemmas.{List.Elements.{All-contains, All-contains_itself}, Grind.get_or-set_at}
use Rattle.std.specs.List.{insert, Sorted.IsNonDecreasingBy}
use Rattle.race_access.specs.{declared.access.Access.Access, Kept.{AreRising, IsPlaceOf, DropsKnown}}

pub none_rise : AreRising []
none_rise i j d less within = absurd (omega (arith, less, within))

pub one_rises : (read : Access) → AreRising (read ∷ [])
one_rises read i j d less within = absurd (omega (arith, less, within))

pub never_fall : (reads : List Access) → AreRising reads → IsNonDecreasingBy (λ e. e.who) reads
never_fall reads rising i j d le within = elim (cases_lt i j) [
  | inl less ↦ let up : (get_or reads i d).who < (get_or reads j d).who = rising i j d less within in omega (arith, up)
  | inr more ↦ let same : i ≡ j = omega (arith, le, more) in subst (λ k. (get_or reads i d).who ≤ (get_or reads k d).who) same (omega arith)
]

-- where the place isn't the goroutine's own, it has none
pub has_none : (reads : List Access) (who place : ℕ) → AreRising reads → IsPlaceOf reads who place
    → ((d : Access) → place < length reads → (get_or reads place d).who ≢ who) → All (λ e. e.who ≢ who) reads
has_none reads who place rising (bound, (low, high)) other k d within same = elim (cases_order k place) [
  | inl at ↦ other d (omega (arith, at, within)) (subst (λ n. (get_or reads n d).who ≡ who) at same)
  | inr (inl below) ↦ let lower : (get_or reads k d).who < who = low k d (omega arith) below in absurd (omega (arith, lower, same))
  | inr (inr above) ↦
      let first : who ≤ (get_or reads place d).who = high place d (omega arith) (omega (arith, above, within)) in
      let up : (get_or reads place d).who < (get_or reads k d).who = rising place k d above within in
      absurd (omega (arith, first, up, same))
]

-- nor where some are dropped
pub still_none : (who : ℕ) (old new : List Access) (clock : List ℕ) → DropsKnown old new clock → All (λ e. e.who ≢ who) old → All (λ e. e.who ≢ who) new
still_none who old new clock drops none k d within =
    All-contains (λ e. e.who ≢ who) old (get_or new k d) none (drops.nothing_else (get_or new k d) (All-contains_itself new k d within))

-- another in the place of a Read of the same goroutine
pub set_rises : (reads : List Access) (place : ℕ) (y : Access) → AreRising reads → place < length reads
    → ((d : Access) → (get_or reads place d).who ≡ y.who) → AreRising (set reads place y)
set_rises reads place y rising inside same i j d less within =
    rw (who_is i, who_is j) (rising i j d less (subst (λ n. j < n) (length-set reads place y) within))
  where
    who_is : (k : ℕ) → (get_or (set reads place y) k d).who ≡ (get_or reads k d).who
    who_is k = elim (cases_order k place) [
      | inl at ↦ (λ n. (get_or-set_at reads place k y d at inside n).who) ∙ sym (same d) ∙ (λ n. (get_or reads (sym at n) d).who)
      | inr (inl below) ↦ (λ n. (get_or-set_other reads place k y d (λ at. absurd (omega (arith, at, below))) n).who)
      | inr (inr above) ↦ (λ n. (get_or-set_other reads place k y d (λ at. absurd (omega (arith, at, above))) n).who)
    ]

-- a Read of a goroutine that has none, in its place
module _ (reads : List Access) (place : ℕ) (y : Access) (rising : AreRising reads) (at : IsPlaceOf reads y.who place)
    (none : All (λ e. e.who ≢ y.who) reads) where
  bound : place ≤ length reads
  bound = at.0

  -- the one at an index of the longer list: before the place, there, or behind
  below_is : (k : ℕ) (d : Access) → k < place → get_or (insert reads place y) k d ≡ get_or reads k d
  below_is k d less = get_or-insert_below reads place y d k less bound

  at_is : (d : Access) → get_or (insert reads place y) place d ≡ y
  at_is d = get_or-insert_at reads place y d bound

  above_is : (k : ℕ) (d : Access) → place ≤ k → get_or (insert reads place y) (k + 1) d ≡ get_or reads k d
  above_is k d le = get_or-insert_above reads place y d k le bound

  higher : (k : ℕ) (d : Access) → place ≤ k → k < length reads → y.who < (get_or reads k d).who
  higher k d le within =
      let most : y.who ≤ (get_or reads k d).who = at.1.1 k d le within in
      elim (cases_order y.who (get_or reads k d).who) [
        | inl same ↦ absurd (none k d within (sym same))
        | inr (inl up) ↦ up
        | inr (inr down) ↦ absurd (omega (arith, most, down))
      ]

  Up : ℕ → ℕ → Access → Type 0
  Up i j d = (get_or (insert reads place y) i d).who < (get_or (insert reads place y) j d).who

  up_behind : (i j : ℕ) (d : Access) → i < j + 1 → place ≤ j → j < length reads → Up i (j + 1) d
  unfolding Up
  up_behind i j d less le within = elim (cases_order i place) [
    | inl here ↦ subst (λ n. Up n (j + 1) d) (sym here) (rw (at_is d, above_is j d le) (higher j d le within))
    | inr (inl below) ↦ rw (below_is i d below, above_is j d le) (rising i j d (omega (arith, below, le)) within)
    | inr (inr above) ↦ both i above less
  ]
    where
      both : (i : ℕ) → place < i → i < j + 1 → Up i (j + 1) d
      both zero above less = absurd (omega (arith, above))
      both (suc i) above less =
          let next : i + 1 ≡ suc i = omega arith in
          subst (λ n. Up n (j + 1) d) next (rw (above_is i d (omega (arith, above)), above_is j d le) (rising i j d (omega (arith, less)) within))

  pub insert_rises : AreRising (insert reads place y)
  unfolding Up
  insert_rises i j d less within = go j less (subst (λ n. j < n) (length-insert reads place y bound) within)
    where
      go : (j : ℕ) → i < j → j < length reads + 1 → Up i j d
      go j less short = elim (cases_order j place) [
        | inl here ↦ subst (λ n. Up i n d) (sym here)
            (rw (below_is i d (omega (arith, less, here)), at_is d) (at.1.0 i d (omega arith) (omega (arith, less, here))))
        | inr (inl below) ↦ rw (below_is i d (omega (arith, less, below)), below_is j d below) (rising i j d less (let b = bound in omega (arith, below, b)))
        | inr (inr above) ↦ behind j less short above
      ]
        where
          behind : (j : ℕ) → i < j → j < length reads + 1 → place < j → Up i j d
          behind zero less short above = absurd (omega (arith, above))
          behind (suc j) less short above =
              let next : j + 1 ≡ suc j = omega arith in
              subst (λ n. Up i n d) next (up_behind i j d (omega (arith, less)) (omega (arith, above)) (omega (arith, short)))
