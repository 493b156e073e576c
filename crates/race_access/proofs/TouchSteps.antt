-- The races of a lawful list of touches, one touch on.
use Rattle.std.proofs.Common.{◌≡◌, ◌≢◌, ◌⊎◌, ℕ, ◌<◌, ◌≤◌, List, [], ◌∷◌, ◌++◌, length, Option, Some, None, slice_get}
use Rattle.std.proofs.{Common.{refl, sym, ap, ◌∙◌, subst, inl, inr, arith, IsTrue}, lemmas.Bool.{cases_lt, cases_order}}
use Rattle.std.proofs.lemmas.Option.{slice_get-get_or}
use Rattle.std.proofs.lemmas.List.Elements.{Contains-append_left, Contains-push, Contains-push_cases}
use Rattle.std.specs.List.{Contains}
use Rattle.race_model.{specs.Race.{RaceBy, IsReportedBy}, proofs.Uniqueness.reported_unique}
use Rattle.race_model.proofs.Indexes.{append_at_old, slice_get-push}
use Rattle.race_access.specs.Touches.{Touch, IsKnownTo, IsLawful, IsAt, Conflicting, Known, IsReported}

-- the races of a list
abbrev pub Race : List Touch → ℕ → ℕ → Type 0
Race touched i j = RaceBy (Conflicting touched) (Known touched) i j

-- an element of a list stands at an index
pub place_of : {X : Type 0} (xs : List X) (x : X) → Contains xs x → (k : ℕ) × (k < length xs) × (slice_get xs k ≡ Some x)
place_of xs x (k, less, is) = (k, less, slice_get-get_or xs k x less ∙ ap Some is)

-- event numbers tell touches apart
pub same_at : (touched : List Touch) → IsLawful touched → (a b : Touch) → Contains touched a → Contains touched b → a.stamp.at ≡ b.stamp.at → a ≡ b
same_at touched lawful a b ina inb same =
    let (k, lessk, atk) = place_of touched a ina in
    let (m, lessm, atm) = place_of touched b inb in
    elim (cases_order k m) [
      | inl equal ↦ cc
      | inr (inl less) ↦ let rises : a.stamp.at < b.stamp.at = lawful.rising k m a b less atk atm in absurd (omega (arith, rises, same))
      | inr (inr more) ↦ let rises : b.stamp.at < a.stamp.at = lawful.rising m k b a more atm atk in absurd (omega (arith, rises, same))
    ]

module _ (touched : List Touch) (t : Touch) (lawful : IsLawful (touched ++ t ∷ [])) where
  inside : (a : Touch) → Contains touched a → Contains (touched ++ t ∷ []) a
  inside a is = Contains-append_left touched (t ∷ []) a is

  last : Contains (touched ++ t ∷ []) t
  last = Contains-push touched t

  -- the next one is the latest
  pub later : (a : Touch) → Contains touched a → a.stamp.at < t.stamp.at
  later a is =
      let (k, less, at) = place_of touched a is in
      lawful.rising k (length touched) a t less (append_at_old touched (t ∷ []) k a at) (slice_get-push touched t)

  -- what was known stays so
  known_grows : (i j : ℕ) → Known touched i j → Known (touched ++ t ∷ []) i j
  known_grows i j (a, b, (ina, ati), (inb, atj), known) = (a, b, (inside a ina, ati), (inside b inb, atj), known)

  -- what is known of two indexes is known of the touches that stand there
  is_known : (a b : Touch) → Contains (touched ++ t ∷ []) a → Contains (touched ++ t ∷ []) b
      → Known (touched ++ t ∷ []) a.stamp.at b.stamp.at → IsKnownTo a b
  is_known a b ina inb (c, d, (inc, atc), (ind, atd), known) =
      let first : c ≡ a = same_at (touched ++ t ∷ []) lawful c a inc ina atc in
      let second : d ≡ b = same_at (touched ++ t ∷ []) lawful d b ind inb atd in
      subst (IsKnownTo a) second (subst (λ c. IsKnownTo c d) first known)

  -- and between old ones no more is known
  known_old : (i j : ℕ) (a b : Touch) → IsAt touched i a → IsAt touched j b → Known (touched ++ t ∷ []) i j → IsKnownTo a b
  known_old i j a b (ina, ati) (inb, atj) known = is_known a b (inside a ina) (inside b inb)
      (subst (λ (p : ℕ × ℕ). Known (touched ++ t ∷ []) p.0 p.1) (λ k. (sym ati k, sym atj k)) known)

  -- an old race stays one
  pub race_grows : (i j : ℕ) → Race touched i j → Race (touched ++ t ∷ []) i j
  race_grows i j race =
      let (a, b, ati, atj, write) = race.conflict.1 in record {
        conflict = (race.conflict.0, (a, b, (inside a ati.0, ati.1), (inside b atj.0, atj.1), write));
        not_before = λ known. race.not_before (a, b, ati, atj, known_old i j a b ati atj known);
        not_after = λ known. race.not_after (b, a, atj, ati, known_old j i b a atj ati known);
      }

  -- an earlier one that conflicts with the next and isn't known to it races with it
  pub race_new : (a : Touch) → Contains touched a → IsTrue a.stamp.write ⊎ IsTrue t.stamp.write
      → ¬ IsKnownTo a t → Race (touched ++ t ∷ []) a.stamp.at t.stamp.at
  race_new a ina write unknown = record {
    conflict = (
      λ same. let less : a.stamp.at < t.stamp.at = later a ina in
          absurd (omega (arith, less, same)),
      (a, t, (inside a ina, refl), (last, refl), write),
    );
    not_before = λ known. unknown (is_known a t (inside a ina) last known);
    not_after = λ known. lawful.onward a t (inside a ina) last (later a ina) (is_known t a last (inside a ina) known);
  }

  -- what races with the next one
  abbrev pub IsPartner : Touch → Type 0
  IsPartner a = Contains touched a × (IsTrue a.stamp.write ⊎ IsTrue t.stamp.write) × ¬ IsKnownTo a t

  -- a race is an old one, or the next one's
  pub race_cases : (i j : ℕ) → i < j → Race (touched ++ t ∷ []) i j → Race touched i j ⊎ ((j ≡ t.stamp.at) × ((a : Touch) × (a.stamp.at ≡ i) × IsPartner a))
  race_cases i j less race =
      let (a, b, (ina, ati), (inb, atj), write) = race.conflict.1 in
      cases a b ina ati inb atj write (Contains-push_cases touched t a ina) (Contains-push_cases touched t b inb)
    where
      cases : (a b : Touch) → Contains (touched ++ t ∷ []) a → a.stamp.at ≡ i → Contains (touched ++ t ∷ []) b → b.stamp.at ≡ j
          → IsTrue a.stamp.write ⊎ IsTrue b.stamp.write → Contains touched a ⊎ (t ≡ a) → Contains touched b ⊎ (t ≡ b)
          → Race touched i j ⊎ ((j ≡ t.stamp.at) × ((a : Touch) × (a.stamp.at ≡ i) × IsPartner a))
      cases a b ina ati inb atj write (inl olda) (inl oldb) = inl (record {
        conflict = (race.conflict.0, (a, b, (olda, ati), (oldb, atj), write));
        not_before = λ known. race.not_before (known_grows i j known);
        not_after = λ known. race.not_after (known_grows j i known);
      })
      cases a b ina ati inb atj write (inl olda) (inr newb) = inr (
        sym atj ∙ ap (λ (b : Touch). b.stamp.at) (sym newb),
        (
          a,
          ati,
          (
            olda,
            subst (λ (b : Touch). IsTrue a.stamp.write ⊎ IsTrue b.stamp.write) (sym newb) write,
            λ known. race.not_before (a, b, (ina, ati), (inb, atj), subst (IsKnownTo a) newb known),
          ),
        ),
      )
      cases a b ina ati inb atj write (inr newa) (inl oldb) =
          let behind : b.stamp.at < t.stamp.at = later b oldb in
          let same : t.stamp.at ≡ a.stamp.at = ap (λ (a : Touch). a.stamp.at) newa in
          absurd (omega (arith, behind, same, ati, atj, less))
      cases a b ina ati inb atj write (inr newa) (inr newb) =
          let same : t.stamp.at ≡ a.stamp.at = ap (λ (a : Touch). a.stamp.at) newa in
          let alike : t.stamp.at ≡ b.stamp.at = ap (λ (b : Touch). b.stamp.at) newb in
          absurd (omega (arith, same, alike, ati, atj, less))

  -- races go both ways
  turned : (i j : ℕ) → Race (touched ++ t ∷ []) i j → Race (touched ++ t ∷ []) j i
  turned i j race =
      let (a, b, ati, atj, write) = race.conflict.1 in record {
        conflict = (λ same. race.conflict.0 (sym same), (b, a, atj, ati, elim write [ inl w ↦ inr w | inr w ↦ inl w ]));
        not_before = race.not_after;
        not_after = race.not_before;
      }

  -- where the next one has no partner no race comes
  pub still_free : ((i j : ℕ) → ¬ Race touched i j) → ((a : Touch) → ¬ IsPartner a) → (i j : ℕ) → ¬ Race (touched ++ t ∷ []) i j
  still_free free alone i j race = elim (cases_lt i j) [
    | inl less ↦ one i j less race
    | inr more ↦ let differ : i ≢ j = race.conflict.0 in one j i (omega (arith, more, differ)) (turned i j race)
  ]
    where
      one : (i j : ℕ) → i < j → Race (touched ++ t ∷ []) i j → ⊥
      one i j less race = elim (race_cases i j less race) [
        | inl old ↦ free i j old
        | inr new ↦ alone new.1.0 new.1.2
      ]

  -- the greatest partner and the next one are the reported race where there was none
  pub first_race : ((i j : ℕ) → ¬ Race touched i j) → (a : Touch) → IsPartner a → ((b : Touch) → IsPartner b → b.stamp.at ≤ a.stamp.at)
      → IsReportedBy (Conflicting (touched ++ t ∷ [])) (Known (touched ++ t ∷ [])) a.stamp.at t.stamp.at
  first_race free a (ina, write, unknown) greatest = record {
    race = race_new a ina write unknown;
    in_order = later a ina;
    least = λ k m less race. elim (race_cases k m less race) [
      | inl old ↦ absurd (free k m old)
      | inr new ↦ omega (arith, new.0)
    ];
    greatest = λ k less race. elim (race_cases k t.stamp.at less race) [
      | inl old ↦ absurd (free k t.stamp.at old)
      | inr new ↦ let most : new.1.0.stamp.at ≤ a.stamp.at = greatest new.1.0 new.1.2 in omega (arith, most, new.1.1)
    ];
  }

  -- the reported race stays so
  pub race_stays : (i j : ℕ) → IsReportedBy (Conflicting touched) (Known touched) i j
      → IsReportedBy (Conflicting (touched ++ t ∷ [])) (Known (touched ++ t ∷ [])) i j
  race_stays i j reported = record {
    race = race_grows i j reported.race;
    in_order = reported.in_order;
    least = λ k m less race. elim (race_cases k m less race) [
      | inl old ↦ reported.least k m less old
      | inr new ↦ omega (arith, new.0, below)
    ];
    greatest = λ k less race. elim (race_cases k j less race) [
      | inl old ↦ reported.greatest k less old
      | inr new ↦ absurd (omega (arith, new.0, below))
    ];
  }
    where
      below : j < t.stamp.at
      below =
          let (a, b, ati, (inb, atj), write) = reported.race.conflict.1 in
          let less : b.stamp.at < t.stamp.at = later b inb in
          omega (arith, less, atj)

-- one race is reported, or none
pub reported_once : (touched : List Touch) (race other : Option (ℕ × ℕ)) → IsReported touched race → IsReported touched other → race ≡ other
reported_once touched None None free none = refl
reported_once touched None (Some (i, j)) free reported = absurd (free i j reported.race)
reported_once touched (Some (i, j)) None reported free = absurd (free i j reported.race)
reported_once touched (Some (i, j)) (Some (k, m)) reported other = let same = reported_unique i j k m reported other in λ n. Some (same.0 n, same.1 n)
