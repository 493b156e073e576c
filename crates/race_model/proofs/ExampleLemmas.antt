-- Verdicts on small lists, by tests that compute: on a list that is written out, refl answers.
use Rattle.std.proofs.Common.{◌≡◌, ◌⊎◌, ℕ, zero, suc, ◌<◌, ◌||◌, ◌&&◌, not, nat_lt, ◌≢◌, Bool, true, false, Option}
use Rattle.std.proofs.Common.{List, [], ◌∷◌}
use Rattle.std.proofs.Common.{◌++◌, length, take, Some, None, is_none, slice_get, refl, sym, ap, ◌∙◌, subst, inl, inr}
use Rattle.std.proofs.Common.{arith}
use Rattle.std.proofs.{Common.{eqb-true, IsTrue}, lemmas.Bool.{cases_order, or_left, or_right, or_cases, and_parts}}
use Rattle.std.proofs.lemmas.{Bool.Decides.{not_from_Decides, nat_tests}, Option.slice_get_within}
use Rattle.race_records.specs.declared.event.{Event.Event, Op.{Op, TheVariants.{Read, Write}}}
use Rattle.race_model.specs.{Events.{At, writes, accesses, is_access}, Order.HappensBefore}
use Rattle.race_model.specs.Legal.{broken, IsLegal, IsIllegalAt}
use Rattle.race_model.specs.Race.{IsAccessOf, IsWriteOf, IsRace, IsReportedRace, IsDataRaceFree}
use Rattle.race_model.specs.Reorder.{StandsBefore, own_order}
use Rattle.race_model.{specs.Verdict.{Race, AreReportedRaces}, proofs.Indexes.at_same}
use Rattle.race_model.proofs.{ReorderLemmas.{passes_from, is_access_from}, OwnOrder.{own_each, own_stands_before}}
use Rattle.race_model.proofs.{LegalSteps.{AllKept, legal_none, legal_by}, RaceSteps.race_turned}
use Rattle.race_model.proofs.{SeenByComputing.{has_seen, Decides-seen}, BeforeSeen.{before_from_seen, race_from_unseen}}

-- a Write of any variable
abbrev pub is_write : Op → Bool
is_write (Write x v) = true
is_write _ = false

is_write_from : (x : ℕ) (o : Op) → IsTrue (writes x o) → IsTrue (is_write o)
is_write_from x (Write y v) is = refl
is_write_from x _ is = cc

-- who accesses two variables at once accesses one
one_variable : (x y : ℕ) (o : Op) → IsTrue (accesses x o) → IsTrue (accesses y o) → x ≡ y
one_variable x y (Read z v) is_x is_y = sym (read_of z x is_x) ∙ read_of z y is_y
  where
    read_of : (z x : ℕ) → IsTrue (accesses x (Read z v)) → z ≡ x
    read_of z x is = elim (or_cases _ _ is) [ inl is ↦ eqb-true z x is | inr is ↦ cc ]
one_variable x y (Write z v) is_x is_y = sym (eqb-true z x is_x) ∙ eqb-true z y is_y
one_variable x y _ is_x is_y = cc

-- a, at index p, is seen by b's goroutine before index q
abbrev pub sees : (ℕ → ℕ) → List Event → ℕ → ℕ → Event → Event → Bool
sees caps events p q a b = has_seen caps events p a.who q q b.who

-- of two accesses none writes, or the later one's goroutine has seen the earlier one
abbrev keeps : (ℕ → ℕ) → List Event → ℕ → ℕ → Option Event → Option Event → Bool
keeps caps events p q (Some a) (Some b) = not (is_write a.op || is_write b.op) || sees caps events p q a b
keeps caps events p q _ _ = false

abbrev pub keeps_order : (ℕ → ℕ) → List Event → ℕ → ℕ → Bool
keeps_order caps events p q = keeps caps events p q (slice_get events p) (slice_get events q)

-- with each index behind p in the list of indexes
abbrev pub keeps_behind : (ℕ → ℕ) → List Event → ℕ → List ℕ → Bool
keeps_behind caps events p [] = true
keeps_behind caps events p (q ∷ rest) = keeps_order caps events p q && keeps_behind caps events p rest

-- with each pair of them
abbrev pub all_ordered : (ℕ → ℕ) → List Event → List ℕ → Bool
all_ordered caps events [] = true
all_ordered caps events (p ∷ rest) = keeps_behind caps events p rest && all_ordered caps events rest

-- no event of rest breaks a rule behind past and those before it
abbrev pub all_kept : (ℕ → ℕ) → List Event → List Event → Bool
all_kept caps past [] = true
all_kept caps past (e ∷ rest) = is_none (broken caps past e) && all_kept caps (past ++ e ∷ []) rest

kept_by : (caps : ℕ → ℕ) (past rest : List Event) → IsTrue (all_kept caps past rest) → AllKept caps past rest
kept_by caps past [] is = tt
kept_by caps past (e ∷ rest) is = (none_is (broken caps past e) (and_parts _ _ is).0, kept_by caps (past ++ e ∷ []) rest (and_parts _ _ is).1)
  where
    none_is : (o : Option ℕ) → IsTrue (is_none o) → o ≡ None
    none_is None is = refl
    none_is (Some n) is = cc

pub legal_from : (caps : ℕ → ℕ) (events : List Event) → IsTrue (all_kept caps [] events) → IsLegal caps events
legal_from caps events is = legal_by caps [] events (legal_none caps) (kept_by caps [] events is)

-- behind a front that breaks no rule the event at its end breaks one
pub illegal_from : (caps : ℕ → ℕ) (events : List Event) (i n : ℕ) → IsTrue (all_kept caps [] (take i events))
    → elim (slice_get events i) [ Some e ↦ broken caps (take i events) e | None ↦ None ] ≡ Some n → IsIllegalAt caps events i n
illegal_from caps events i n kept breaks = by (slice_get events i) refl breaks
  where
    by : (o : Option Event) → slice_get events i ≡ o → elim o [ Some e ↦ broken caps (take i events) e | None ↦ None ] ≡ Some n → IsIllegalAt caps events i n
    by (Some e) at is = (e, at, is, legal_from caps (take i events) kept)
    by None at is = cc

-- a test of the two events
abbrev of_both : (Event → Event → Bool) → Option Event → Option Event → Bool
of_both test (Some a) (Some b) = test a b
of_both test _ _ = false

both_from : (test : Event → Event → Bool) (o r : Option Event) → IsTrue (of_both test o r) → (a : Event) × (b : Event) × (o ≡ Some a) × (r ≡ Some b) × IsTrue (test a b)
both_from test (Some a) (Some b) is = (a, b, refl, refl, is)
both_from test _ _ is = cc

module _ (caps : ℕ → ℕ) (events : List Event) where
  behind_at : (p : ℕ) (order : List ℕ) (n j : ℕ) → IsTrue (keeps_behind caps events p order) → slice_get order n ≡ Some j → IsTrue (keeps_order caps events p j)
  behind_at p [] n j is at = cc
  behind_at p (q ∷ rest) zero j is at = let same : q ≡ j = cc in subst (λ q. IsTrue (keeps_order caps events p q)) same (and_parts _ _ is).0
  behind_at p (q ∷ rest) (suc n) j is at = behind_at p rest n j (and_parts _ _ is).1 at

  ordered_at : (order : List ℕ) (i j : ℕ) → IsTrue (all_ordered caps events order) → StandsBefore order i j → IsTrue (keeps_order caps events i j)
  ordered_at [] i j is (m, n, less, ati, atj) = cc
  ordered_at (p ∷ rest) i j is (m, zero, less, ati, atj) = absurd (omega arith)
  ordered_at (p ∷ rest) i j is (zero, suc n, less, ati, atj) =
      let same : p ≡ i = cc in subst (λ p. IsTrue (keeps_order caps events p j)) same (behind_at p rest n j (and_parts _ _ is).0 atj)
  ordered_at (p ∷ rest) i j is (suc m, suc n, less, ati, atj) = ordered_at rest i j (and_parts _ _ is).1 (m, n, omega arith, ati, atj)

  -- an access that is seen happens before
  pub before_by : {p q : ℕ} {a b : Event} → At events p a → At events q b → IsTrue (is_access a.op) → IsTrue (sees caps events p q a b)
      → HappensBefore caps events p q
  before_by {p} {q} {a} {b} atp atq is seen =
      let within : q < length events = slice_get_within events q b atq in
      before_from_seen caps events p q a b atp atq is ((Decides-seen caps events p a.who q q b.who (omega arith) (omega arith)).0 seen)

  -- by a test of the two
  pub before_from : (p q : ℕ) → IsTrue (of_both (λ a b. is_access a.op && sees caps events p q a b) (slice_get events p) (slice_get events q))
      → HappensBefore caps events p q
  before_from p q is =
      let two = both_from _ _ _ is in
      let tests = and_parts _ _ two.4 in
      before_by two.2 two.3 tests.0 tests.1

  -- where each pair of accesses keeps order, nothing races
  pub free_from : IsTrue (all_ordered caps events (own_order events)) → IsDataRaceFree caps events
  free_from is y i j r = elim (cases_order i j) [
    | inl same ↦ r.conflict.0 same
    | inr (inl less) ↦ none y i j less r
    | inr (inr more) ↦ none y j i more (race_turned caps events y i j r)
  ]
    where
      none : (y i j : ℕ) → i < j → IsRace caps events y i j → ⊥
      none y i j less r = go r.conflict.1 r.conflict.2 r.conflict.3
        where
          go : IsAccessOf events y i → IsAccessOf events y j → IsWriteOf events y i ⊎ IsWriteOf events y j → ⊥
          go (a, ata, is_a) (b, atb, is_b) write = r.not_before (before_by ata atb (is_access_from y a.op is_a) seen)
            where
              passes : IsTrue (keeps_order caps events i j)
              passes =
                  ordered_at (own_order events) i j is (own_stands_before events i j less
                  (passes_from is_access events i a ata (is_access_from y a.op is_a))
                  (passes_from is_access events j b atb (is_access_from y b.op is_b)))

              some_write : IsWriteOf events y i ⊎ IsWriteOf events y j → IsTrue (is_write a.op || is_write b.op)
              some_write (inl (e, at, is)) = or_left _ _ (subst (λ (e : Event). IsTrue (is_write e.op)) (at_same events i e a at ata) (is_write_from y e.op is))
              some_write (inr (e, at, is)) = or_right _ _
                  (subst (λ (e : Event). IsTrue (is_write e.op)) (at_same events j e b at atb) (is_write_from y e.op is))

              told : IsTrue (not (is_write a.op || is_write b.op) || sees caps events i j a b)
              told = sym (ap (λ o. keeps caps events i j (Some a) o) atb) ∙ sym (ap (λ o. keeps caps events i j o (slice_get events j)) ata) ∙ passes

              seen : IsTrue (sees caps events i j a b)
              seen = sym (ap (λ t. not t || sees caps events i j a b) (some_write write)) ∙ told

  -- the only accesses, of one variable, at two indexes: one writes, and the earlier one isn't seen
  pub race_by : (x : ℕ) {p q : ℕ} {a b : Event} → At events p a → At events q b → p < q → IsTrue (accesses x a.op) → IsTrue (accesses x b.op)
      → IsTrue (writes x a.op || writes x b.op)
      → sees caps events p q a b ≡ false → IsRace caps events x p q
  race_by x {p} {q} {a} {b} atp atq up is_a is_b write unseen =
      let within : q < length events = slice_get_within events q b atq in
      race_from_unseen caps events x p q a b up atp atq
      ((λ same. absurd (omega arith)), (a, atp, is_a), (b, atq, is_b), elim (or_cases _ _ write) [ inl is ↦ inl (a, atp, is) | inr is ↦ inr (b, atq, is) ])
      (not_from_Decides _ (Decides-seen caps events p a.who q q b.who (omega arith) (omega arith)) unseen)

  module _ (x p q : ℕ) (only : (y i : ℕ) → IsAccessOf events y i → ((i ≡ p) ⊎ (i ≡ q)) × (x ≡ y)) where
    -- where the only two accesses race, their race is what is reported
    two_race : p < q → IsRace caps events x p q → AreReportedRaces caps events (record { var = x; first = p; second = q } ∷ [])
    two_race up race = record {
      each = each;
      rising = λ k m r s less atk atm. absurd (only_first k m r s less atk atm);
      every = λ y i j r. (0, the_race, refl, (only y i r.conflict.1).1);
    }
      where
        the_race : Race
        the_race = record { var = x; first = p; second = q }

        reported : IsReportedRace caps events x p q
        reported = record {
          race = race;
          in_order = up;
          least = λ k m less r. elim (only x m r.conflict.2).0 [
            | inl at_p ↦ elim (only x k r.conflict.1).0 [ inl e ↦ absurd (omega arith) | inr e ↦ absurd (omega (arith, up)) ]
            | inr at_q ↦ omega arith
          ];
          greatest = λ k less r. elim (only x k r.conflict.1).0 [ inl at_p ↦ omega arith | inr at_q ↦ absurd (omega arith) ];
        }

        each : (k : ℕ) (r : Race) → slice_get (the_race ∷ []) k ≡ Some r → IsReportedRace caps events r.var r.first r.second
        each zero r at = let same : the_race ≡ r = cc in subst (λ (r : Race). IsReportedRace caps events r.var r.first r.second) same reported
        each (suc k) r at = cc

        only_first : (k m : ℕ) (r s : Race) → k < m → slice_get (the_race ∷ []) k ≡ Some r → slice_get (the_race ∷ []) m ≡ Some s → ⊥
        only_first k zero r s less atk atm = absurd (omega arith)
        only_first k (suc m) r s less atk atm = cc

  -- two accesses of x, of which one writes and the earlier one isn't seen
  abbrev apart : ℕ → ℕ → ℕ → Event → Event → Bool
  apart x p q a b = nat_lt p q && (accesses x a.op && (accesses x b.op && ((writes x a.op || writes x b.op) && not (sees caps events p q a b))))

  apart_is : (x p q : ℕ) (a b : Event) → IsTrue (apart x p q a b)
      → (p < q) × IsTrue (accesses x a.op) × IsTrue (accesses x b.op) × IsTrue (writes x a.op || writes x b.op) × (sees caps events p q a b ≡ false)
  apart_is x p q a b is = grind (arith, nat_tests)

  module _ (x p q : ℕ) (a b : Event) (own : own_order events ≡ p ∷ q ∷ []) (atp : At events p a) (atq : At events q b)
      (is_a : IsTrue (accesses x a.op)) (is_b : IsTrue (accesses x b.op)) where
    at_two : (i k : ℕ) → slice_get (p ∷ q ∷ []) k ≡ Some i → (i ≡ p) ⊎ (i ≡ q)
    at_two i zero at = inl cc
    at_two i (suc zero) at = inr cc
    at_two i (suc (suc k)) at = cc

    variable : (y i : ℕ) (e : Event) → At events i e → IsTrue (accesses y e.op) → (i ≡ p) ⊎ (i ≡ q) → x ≡ y
    variable y i e at is (inl same) = let here : a ≡ e = cc in one_variable x y e.op (subst (λ (a : Event). IsTrue (accesses x a.op)) here is_a) is
    variable y i e at is (inr same) = let here : b ≡ e = cc in one_variable x y e.op (subst (λ (b : Event). IsTrue (accesses x b.op)) here is_b) is

    only_two : (y i : ℕ) → IsAccessOf events y i → ((i ≡ p) ⊎ (i ≡ q)) × (x ≡ y)
    only_two y i (e, at, is) =
        let found : (k : ℕ) × (slice_get (own_order events) k ≡ Some i) =
        own_each events i (passes_from is_access events i e at (is_access_from y e.op is)) in
        let one : (i ≡ p) ⊎ (i ≡ q) = at_two i found.0 (ap (λ o. slice_get o found.0) (sym own) ∙ found.1) in
        (one, variable y i e at is one)

  -- where these are the only accesses, their race is what is reported
  pub races_from : (x p q : ℕ) → own_order events ≡ p ∷ q ∷ [] → IsTrue (of_both (apart x p q) (slice_get events p) (slice_get events q))
      → AreReportedRaces caps events (record { var = x; first = p; second = q } ∷ [])
  races_from x p q own is =
      let (a, b, atp, atq, test) = both_from (apart x p q) _ _ is in
      let (up, is_a, is_b, write, unseen) = apart_is x p q a b test in
      two_race x p q (only_two x p q a b own atp atq is_a is_b) up (race_by x atp atq up is_a is_b write unseen)

pub some_races : (r : Race) (rs : List Race) → r ∷ rs ≢ []
some_races r rs none = cc

-- what a verdict on a list that is written out is made of, each part by a test that computes
pub ruleset verdicts = (legal_from, illegal_from, free_from, before_from, races_from, some_races)
