-- Which races are reported, by tests that compute.
use Rattle.std.proofs.Common.{◌≡◌, ℕ, zero, suc, ◌<◌, ◌||◌, ◌&&◌, not, nat_lt, nat_le, eqb, Bool, true, false, ◌⊎◌, inl, inr}
use Rattle.std.proofs.Common.{List, [], ◌∷◌, length, Option, Some, None, slice_get, refl, sym, ap, ◌∙◌, subst, arith, IsTrue, eqb-true}
use Rattle.std.proofs.lemmas.{Bool.{cases_order, or_left, or_right, or_cases, and_parts}, Bool.Decides.nat_tests, Option.slice_get_within}
use Rattle.race_records.specs.declared.event.{Event.Event, Op.{Op, TheVariants.{Read, Write}}}
use Rattle.race_model.specs.{Events.{At, writes, accesses}, Race.{IsRace, IsReportedRace, IsWriteOf}, Verdict.{Race, AreReportedRaces}}
use Rattle.race_model.proofs.{Indexes.at_same, RaceSteps.race_turned, ReorderLemmas.is_access_from, ExampleLemmas.{sees, before_by, race_by}}

-- a test of each number below
abbrev pub each_below : (ℕ → Bool) → ℕ → Bool
each_below test zero = true
each_below test (suc n) = test n && each_below test n

at_each : (test : ℕ → Bool) (n k : ℕ) → IsTrue (each_below test n) → k < n → IsTrue (test k)
at_each test zero k is less = absurd (omega (arith, less))
at_each test (suc n) k is less = by (at_each test n k (and_parts _ _ is).1) (eqb k n) refl
  where
    by : (k < n → IsTrue (test k)) → (same : Bool) → eqb k n ≡ same → IsTrue (test k)
    by lower true e = subst (λ k. IsTrue (test k)) (sym (eqb-true k n e)) (and_parts _ _ is).0
    by lower false e = let below : k < n = grind (arith, nat_tests, e, less) in lower below

contrary : (t : Bool) → IsTrue (not t) → IsTrue t → ⊥
contrary true is also = cc
contrary false is also = cc

-- the variable that the operation accesses
abbrev pub variable_of : Op → Option ℕ
variable_of (Read x v) = Some x
variable_of (Write x v) = Some x
variable_of _ = None

of_access : (x : ℕ) (o : Op) → IsTrue (accesses x o) → variable_of o ≡ Some x
of_access x (Read y v) is = elim (or_cases _ _ is) [ inl is ↦ ap Some (eqb-true y x is) | inr is ↦ cc ]
of_access x (Write y v) is = ap Some (eqb-true y x is)
of_access x _ is = cc

-- a race of the variable is listed
abbrev pub is_listed : ℕ → List Race → Bool
is_listed x [] = false
is_listed x (r ∷ races) = eqb r.var x || is_listed x races

listed_at : (x : ℕ) (races : List Race) → IsTrue (is_listed x races) → (k : ℕ) × (r : Race) × (slice_get races k ≡ Some r) × (r.var ≡ x)
listed_at x [] is = cc
listed_at x (r ∷ races) is = elim (or_cases _ _ is) [
  | inl here ↦ (0, r, refl, eqb-true r.var x here)
  | inr later ↦ let found = listed_at x races later in (suc found.0, found.1, found.2, found.3)
]

-- the variables of two races rise
pub two_rise : (r s : Race) → r.var < s.var → (k m : ℕ) (a b : Race) → k < m
    → slice_get (r ∷ s ∷ []) k ≡ Some a → slice_get (r ∷ s ∷ []) m ≡ Some b → a.var < b.var
two_rise r s up k zero a b less ata atb = absurd (omega (arith, less))
two_rise r s up zero (suc zero) a b less ata atb =
    let first : r ≡ a = cc in
    let second : s ≡ b = cc in
    omega (arith, up, ap (λ (t : Race). t.var) first, ap (λ (t : Race). t.var) second)
two_rise r s up (suc k) (suc zero) a b less ata atb = absurd (omega (arith, less))
two_rise r s up k (suc (suc m)) a b less ata atb = cc

module _ (caps : ℕ → ℕ) (events : List Event) where
  abbrev race_test : ℕ → ℕ → ℕ → Event → Event → Bool
  race_test x p q a b = nat_lt p q && (accesses x a.op && (accesses x b.op && ((writes x a.op || writes x b.op) && not (sees caps events p q a b))))

  abbrev both : ℕ → ℕ → ℕ → Option Event → Option Event → Bool
  both x p q (Some a) (Some b) = race_test x p q a b
  both x p q _ _ = false

  -- the two race, and the first of them is earlier
  abbrev pub races_at : ℕ → ℕ → ℕ → Bool
  races_at x p q = both x p q (slice_get events p) (slice_get events q)

  parts_of : (x p q : ℕ) (a b : Event) → IsTrue (race_test x p q a b)
      → (p < q) × IsTrue (accesses x a.op) × IsTrue (accesses x b.op) × IsTrue (writes x a.op || writes x b.op) × (sees caps events p q a b ≡ false)
  parts_of x p q a b is = grind (arith, nat_tests)

  race_from : (x p q : ℕ) → IsTrue (races_at x p q) → (p < q) × IsRace caps events x p q
  race_from x p q is = by (slice_get events p) (slice_get events q) refl refl is
    where
      by : (o r : Option Event) → slice_get events p ≡ o → slice_get events q ≡ r → IsTrue (both x p q o r) → (p < q) × IsRace caps events x p q
      by (Some a) (Some b) atp atq is =
          let t = parts_of x p q a b is in (t.0, race_by caps events x atp atq t.0 t.1 t.2 t.3 t.4)
      by _ _ atp atq is = cc

  from_race : (x p q : ℕ) → p < q → IsRace caps events x p q → IsTrue (races_at x p q)
  from_race x p q up r = go r.conflict.1 r.conflict.2 r.conflict.3
    where
      go : ((a : Event) × At events p a × IsTrue (accesses x a.op)) → ((b : Event) × At events q b × IsTrue (accesses x b.op))
          → IsWriteOf events x p ⊎ IsWriteOf events x q → IsTrue (races_at x p q)
      go (a, ata, is_a) (b, atb, is_b) write = (λ i. both x p q (ata i) (atb i)) ∙ by (sees caps events p q a b) refl
        where
          some_write : IsWriteOf events x p ⊎ IsWriteOf events x q → IsTrue (writes x a.op || writes x b.op)
          some_write (inl (e, at, is)) = or_left _ _ (subst (λ (e : Event). IsTrue (writes x e.op)) (at_same events p e a at ata) is)
          some_write (inr (e, at, is)) = or_right _ _ (subst (λ (e : Event). IsTrue (writes x e.op)) (at_same events q e b at atb) is)

          by : (t : Bool) → sees caps events p q a b ≡ t → IsTrue (race_test x p q a b)
          by true seen = absurd (r.not_before (before_by caps events ata atb (is_access_from x a.op is_a) seen))
          by false unseen = let w = some_write write in grind (arith, nat_tests, w, unseen, is_a, is_b, up)

  -- both are accesses within the list
  within : (x p q : ℕ) → IsRace caps events x p q → (p < length events) × (q < length events)
  within x p q r = (slice_get_within events p r.conflict.1.0 r.conflict.1.1, slice_get_within events q r.conflict.2.0 r.conflict.2.1)

  abbrev comes_first : ℕ → ℕ → ℕ → ℕ → Bool
  comes_first p q k m = nat_lt q m || (eqb m q && nat_le k p)

  module _ (x p q : ℕ) where
    abbrev is_first : ℕ → ℕ → Bool
    is_first k m = not (races_at x k m) || comes_first p q k m

    abbrev each_first : ℕ → Bool
    each_first k = each_below (is_first k) (length events)

  -- the two are the reported ones of x
  abbrev pub is_reported : ℕ → ℕ → ℕ → Bool
  is_reported x p q = races_at x p q && each_below (each_first x p q) (length events)

  pub reported_from : (x p q : ℕ) → IsTrue (is_reported x p q) → IsReportedRace caps events x p q
  reported_from x p q is = record {
    race = race.1;
    in_order = race.0;
    least = λ k m less r. let f = first k m less r in grind (arith, nat_tests, f);
    greatest = λ k less r. let f = first k q less r in grind (arith, nat_tests, f);
  }
    where
      parts : IsTrue (races_at x p q) × IsTrue (each_below (each_first x p q) (length events))
      parts = and_parts _ _ is

      race : (p < q) × IsRace caps events x p q
      race = race_from x p q parts.0

      first : (k m : ℕ) → k < m → IsRace caps events x k m → IsTrue (comes_first p q k m)
      first k m less r =
          let inside = within x k m r in
          let row = at_each (each_first x p q) (length events) k parts.1 inside.0 in
          let test = at_each (is_first x p q k) (length events) m row inside.1 in
          elim (or_cases _ _ test) [ inl none ↦ absurd (contrary (races_at x k m) none (from_race x k m less r)) | inr f ↦ f ]

  abbrev is_covered : List Race → ℕ → ℕ → Option Event → Bool
  is_covered races k m None = true
  is_covered races k m (Some e) = elim (variable_of e.op) [ None ↦ true | Some x ↦ not (races_at x k m) || is_listed x races ]

  abbrev covered_at : List Race → ℕ → ℕ → Bool
  covered_at races k m = is_covered races k m (slice_get events k)

  abbrev each_covered : List Race → ℕ → Bool
  each_covered races k = each_below (covered_at races k) (length events)

  -- each pair that races is of a variable that has a race in the list
  abbrev pub are_covered : List Race → Bool
  are_covered races = each_below (each_covered races) (length events)

  pub every_from : (races : List Race) → IsTrue (are_covered races) → (x i j : ℕ) → IsRace caps events x i j
      → (k : ℕ) × (r : Race) × (slice_get races k ≡ Some r) × (r.var ≡ x)
  every_from races is x i j race = elim (cases_order i j) [
    | inl same ↦ absurd (race.conflict.0 same)
    | inr (inl less) ↦ covered i j less race
    | inr (inr more) ↦ covered j i more (race_turned caps events x i j race)
  ]
    where
      covered : (k m : ℕ) → k < m → IsRace caps events x k m → (n : ℕ) × (r : Race) × (slice_get races n ≡ Some r) × (r.var ≡ x)
      covered k m less r = listed_at x races (go r.conflict.1)
        where
          inside : (k < length events) × (m < length events)
          inside = within x k m r

          test : IsTrue (is_covered races k m (slice_get events k))
          test = at_each (covered_at races k) (length events) m (at_each (each_covered races) (length events) k is inside.0) inside.1

          go : ((a : Event) × At events k a × IsTrue (accesses x a.op)) → IsTrue (is_listed x races)
          go (a, ata, is_a) =
              let here : IsTrue (is_covered races k m (Some a)) = sym (ap (is_covered races k m) ata) ∙ test in
              let named : IsTrue (not (races_at x k m) || is_listed x races) =
              sym (ap (λ (o : Option ℕ). elim o [ None ↦ true | Some x ↦ not (races_at x k m) || is_listed x races ]) (of_access x a.op is_a)) ∙ here in
              elim (or_cases _ _ named) [ inl none ↦ absurd (contrary (races_at x k m) none (from_race x k m less r)) | inr f ↦ f ]

  -- these two are the reported races
  pub two_from : (r s : Race) → IsTrue (is_reported r.var r.first r.second) → IsTrue (is_reported s.var s.first s.second) → r.var < s.var
      → IsTrue (are_covered (r ∷ s ∷ [])) → AreReportedRaces caps events (r ∷ s ∷ [])
  two_from r s first second up covered = record {
    each = each;
    rising = two_rise r s up;
    every = every_from (r ∷ s ∷ []) covered;
  }
    where
      each : (k : ℕ) (t : Race) → slice_get (r ∷ s ∷ []) k ≡ Some t → IsReportedRace caps events t.var t.first t.second
      each zero t at = let same : r ≡ t = cc in subst (λ (r : Race). IsReportedRace caps events r.var r.first r.second)
          same (reported_from r.var r.first r.second first)
      each (suc zero) t at = let same : s ≡ t = cc in subst (λ (r : Race). IsReportedRace caps events r.var r.first r.second)
          same (reported_from s.var s.first s.second second)
      each (suc (suc k)) t at = cc
