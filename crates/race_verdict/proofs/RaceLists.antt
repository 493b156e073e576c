-- The list of the races that are noted.
use Rattle.std.proofs.Common.{◌≡◌, ◌≢◌, ◌==◌, ℕ, zero, suc, ◌+◌, ◌<◌, true, false, eqb-true, List, [], ◌∷◌, length, map}
use Rattle.std.proofs.Common.{Option, Some, None, slice_get, get_or, refl, sym, ap, ◌∙◌, subst, arith}
use Rattle.std.proofs.lemmas.Option.{slice_get-map, slice_get_within, slice_get-get_or, get_or_from_slice_get}
use Rattle.std.specs.Option.{option_map}
use Rattle.race_records.specs.declared.event.Event.{Event}
use Rattle.race_model.specs.{Race.{IsRace, IsDataRaceFree, IsReportedRace}, Verdict.AreReportedRaces}
use Rattle.race_verdict.specs.{declared.{report.ReportedRace.ReportedRace, races.Race.Race}, Notes.race_noted, Races.race_of}
use Rattle.race_verdict.specs.Races.{IsFound, AreFound, races_of, AreRaces}
use Rattle.race_model.specs.Verdict as model

-- the race that is noted at index k is on variable n + k
abbrev pub AreNumbered : ℕ → List (Option Race) → Type 0
AreNumbered n found = (k : ℕ) (r : Race) → slice_get found k ≡ Some (Some r) → r.var ≡ n + k

numbered_behind : (n : ℕ) (o : Option Race) (found : List (Option Race)) → AreNumbered n (o ∷ found) → AreNumbered (n + 1) found
numbered_behind n o found numbered k r at = let var : r.var ≡ n + suc k = numbered (suc k) r at in omega (arith, var)

-- each race of the list was noted
pub was_noted : (found : List (Option Race)) (m : ℕ) (r : Race) → slice_get (races_of found) m ≡ Some r → (k : ℕ) × (slice_get found k ≡ Some (Some r))
was_noted [] m r at = cc
was_noted (None ∷ found) m r at = let rest : (k : ℕ) × (slice_get found k ≡ Some (Some r)) = was_noted found m r at in (suc rest.0, rest.1)
was_noted (Some s ∷ found) zero r at = (0, ap Some at)
was_noted (Some s ∷ found) (suc m) r at = let rest : (k : ℕ) × (slice_get found k ≡ Some (Some r)) = was_noted found m r at in (suc rest.0, rest.1)

-- and each that was noted is in the list
pub is_listed : (found : List (Option Race)) (k : ℕ) (r : Race) → slice_get found k ≡ Some (Some r) → (m : ℕ) × (slice_get (races_of found) m ≡ Some r)
is_listed [] k r at = cc
is_listed (None ∷ found) zero r at = cc
is_listed (None ∷ found) (suc k) r at = is_listed found k r at
is_listed (Some s ∷ found) zero r at = (0, cc)
is_listed (Some s ∷ found) (suc k) r at = let rest : (m : ℕ) × (slice_get (races_of found) m ≡ Some r) = is_listed found k r at in (suc rest.0, rest.1)

-- the list is in rising order of the variables
pub races_rise : (n : ℕ) (found : List (Option Race)) → AreNumbered n found → (m p : ℕ) (r s : Race) → m < p → slice_get (races_of found) m ≡ Some r
    → slice_get (races_of found) p ≡ Some s → r.var < s.var
races_rise n [] numbered m p r s less atr ats = cc
races_rise n (None ∷ found) numbered m p r s less atr ats = races_rise (n + 1) found (numbered_behind n None found numbered) m p r s less atr ats
races_rise n (Some t ∷ found) numbered m zero r s less atr ats = absurd (omega arith)
races_rise n (Some t ∷ found) numbered zero (suc p) r s less atr ats =
    let first : r.var ≡ n + 0 = numbered 0 r (ap Some atr) in
    let rest : (k : ℕ) × (slice_get found k ≡ Some (Some s)) = was_noted found p s ats in
    let second : s.var ≡ n + 1 + rest.0 = numbered_behind n (Some t) found numbered rest.0 s rest.1 in
    omega (arith, first, second)
races_rise n (Some t ∷ found) numbered (suc m) (suc p) r s less atr ats =
    races_rise (n + 1) found (numbered_behind n (Some t) found numbered) m p r s (omega arith) atr ats

-- a race as the model has it comes from one of the list
mapped : (races : List Race) (k : ℕ) (r : model.Race) → slice_get (map race_of races) k ≡ Some r → (q : Race) × (slice_get races k ≡ Some q) × (race_of q ≡ r)
mapped races k r at = go (slice_get races k) refl (sym (slice_get-map race_of races k) ∙ at)
  where
    go : (o : Option Race) → slice_get races k ≡ o → option_map race_of o ≡ Some r → (q : Race) × (slice_get races k ≡ Some q) × (race_of q ≡ r)
    go None is e = cc
    go (Some q) is e = (q, is, cc)

module _ (caps : ℕ → ℕ) (events : List Event) (found : List (Option Race)) (right : AreFound caps events found) where
  -- a race that is noted is the reported one
  noted_is : (x : ℕ) (q : Race) → slice_get found x ≡ Some (Some q) → (q.var ≡ x) × IsReportedRace caps events x q.first q.second
  noted_is x q at = subst (IsFound caps events x) (get_or_from_slice_get found x (Some q) None at) (right x (slice_get_within found x (Some q) at))

  numbered : AreNumbered 0 found
  numbered k r at = let var : r.var ≡ k = (noted_is k r at).0 in omega (arith, var)

  -- what is noted, as a list, is right
  pub are_races : ((x i j : ℕ) → IsRace caps events x i j → x < length found) → AreRaces caps events (races_of found)
  are_races declared = record { each = each; rising = rising; every = every }
    where
      each : (k : ℕ) (r : model.Race) → slice_get (map race_of (races_of found)) k ≡ Some r → IsReportedRace caps events r.var r.first r.second
      each k r at = go (mapped (races_of found) k r at)
        where
          go : ((q : Race) × (slice_get (races_of found) k ≡ Some q) × (race_of q ≡ r)) → IsReportedRace caps events r.var r.first r.second
          go (q, atq, is) =
              let place : (x : ℕ) × (slice_get found x ≡ Some (Some q)) = was_noted found k q atq in
              let known = noted_is place.0 q place.1 in
              subst (λ (r : model.Race). IsReportedRace caps events r.var r.first r.second) is
              (subst (λ x. IsReportedRace caps events x q.first q.second) (sym known.0) known.1)

      rising : (k m : ℕ) (r s : model.Race) → k < m → slice_get (map race_of (races_of found)) k ≡ Some r → slice_get (map race_of (races_of found)) m ≡ Some s
          → r.var < s.var
      rising k m r s less atr ats = go (mapped (races_of found) k r atr) (mapped (races_of found) m s ats)
        where
          go : ((q : Race) × (slice_get (races_of found) k ≡ Some q) × (race_of q ≡ r))
              → ((t : Race) × (slice_get (races_of found) m ≡ Some t) × (race_of t ≡ s)) → r.var < s.var
          go (q, atq, isq) (t, att, ist) =
              let up : q.var < t.var = races_rise 0 found numbered k m q t less atq att in
              let a : q.var ≡ r.var = ap (λ (r : model.Race). r.var) isq in
              let b : t.var ≡ s.var = ap (λ (r : model.Race). r.var) ist in
              omega (arith, up, a, b)

      every : (x i j : ℕ) → IsRace caps events x i j → (k : ℕ) × (r : model.Race) × (slice_get (map race_of (races_of found)) k ≡ Some r) × (r.var ≡ x)
      every x i j race = go (get_or found x None) (slice_get-get_or found x None (declared x i j race)) (right x (declared x i j race))
        where
          go : (o : Option Race) → slice_get found x ≡ Some o → IsFound caps events x o
              → (k : ℕ) × (r : model.Race) × (slice_get (map race_of (races_of found)) k ≡ Some r) × (r.var ≡ x)
          go None at none = absurd (none i j race)
          go (Some q) at (var, reported) =
              let place : (m : ℕ) × (slice_get (races_of found) m ≡ Some q) = is_listed found x q at in
              (place.0, race_of q, slice_get-map race_of (races_of found) place.0 ∙ ap (option_map race_of) place.1, var)

-- where no race is reported there is none
pub free_from_empty : (caps : ℕ → ℕ) (events : List Event) → AreReportedRaces caps events [] → IsDataRaceFree caps events
free_from_empty caps events are x i j race = go (are.every x i j race)
  where
    go : ((k : ℕ) × (r : model.Race) × (slice_get {X = model.Race} [] k ≡ Some r) × (r.var ≡ x)) → ⊥
    go (k, r, at, var) = cc

-- where no race is listed there is none
pub free_from_none : (caps : ℕ → ℕ) (events : List Event) (races : List Race) → AreRaces caps events races → races ≡ [] → IsDataRaceFree caps events
free_from_none caps events races are none = free_from_empty caps events (subst (λ (rs : List Race). AreRaces caps events rs) none are)

-- where one is listed the model's list has one
pub listed_some : (races : List Race) → races ≢ [] → map race_of races ≢ []
listed_some [] some = λ e. some refl
listed_some (r ∷ races) some = λ e. cc

-- the same of races that are noted
pub noted_none : (caps : ℕ → ℕ) (events : List Event) (races : List ReportedRace) → AreReportedRaces caps events (map race_noted races)
    → (length races == 0) ≡ true → IsDataRaceFree caps events
noted_none caps events [] are none = free_from_empty caps events are
noted_none caps events (r ∷ races) are none =
    let empty : length (r ∷ races) ≡ 0 = eqb-true (length (r ∷ races)) 0 none in absurd (omega (arith, empty))

pub noted_some : (races : List ReportedRace) → (length races == 0) ≡ false → map race_noted races ≢ []
noted_some [] some = cc
noted_some (r ∷ races) some = λ e. cc
