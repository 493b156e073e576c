-- A variable has a race where a verdict names one, and nowhere else.
use Rattle.std.proofs.Common.{◌≡◌, ◌==◌, ℕ, zero, suc, Bool, true, false, List, [], ◌∷◌, None, Some, map, slice_get, sym, ap, subst, refl, inl, inr, eqb-true}
use Rattle.std.proofs.{Common.{◌∙◌, eq-eqb, true≢false}, lemmas.Bool.{or_left, or_right, or_cases}}
use Rattle.std.specs.List.{list_any}
use Rattle.race_records.specs.declared.event.Event.{Event}
use Rattle.race_model.specs.{Legal.IsLegal, Race.{IsRace, IsReportedRace}, Verdict.IsVerdict}
use Rattle.race_verdict.specs.{declared.races.Race.Race, Races.race_of}
use Rattle.race_model.specs.Verdict as model

-- a race that stands in the list is found
found : (x : ℕ) (races : List Race) (k : ℕ) (r : model.Race) → slice_get (map race_of races) k ≡ Some r → r.var ≡ x
    → list_any (λ (race : Race). race.var == x) races ≡ true
found x [] k r at is = cc
found x (s ∷ races) zero r at is = or_left (s.var == x) _ (eq-eqb s.var x (ap (λ (r : model.Race). r.var) here ∙ is))
  where
    here : race_of s ≡ r
    here = cc
found x (s ∷ races) (suc k) r at is = or_right (s.var == x) _ (found x races k r at is)

-- so where it isn't found there is none
pub unraced : (x : ℕ) (races : List Race) (any : Bool) → any ≡ list_any (λ (race : Race). race.var == x) races → any ≡ false
    → (caps : ℕ → ℕ) (events : List Event) → IsVerdict caps events (model.Races (map race_of races)) → (i j : ℕ) → ¬ IsRace caps events x i j
unraced x races any is none caps events verdict i j race =
    let (k, r, at, same) = verdict.2.every x i j race in
    true≢false (sym (found x races k r at same) ∙ sym is ∙ none)

-- what is found stands in the list
at_found : (x : ℕ) (races : List Race) → list_any (λ (race : Race). race.var == x) races ≡ true
    → (k : ℕ) × ((r : model.Race) × (slice_get (map race_of races) k ≡ Some r) × (r.var ≡ x))
at_found x [] is = cc
at_found x (r ∷ rs) is = elim (or_cases (r.var == x) (list_any (λ (race : Race). race.var == x) rs) is) [
  | inl here ↦ (0, (race_of r, refl, eqb-true r.var x here))
  | inr behind ↦ let (k, (s, at, same)) = at_found x rs behind in (suc k, (s, at, same))
]

-- so where it is found there is one
pub raced : (x : ℕ) (races : List Race) (any : Bool) → any ≡ list_any (λ (race : Race). race.var == x) races → any ≡ true
    → (caps : ℕ → ℕ) (events : List Event) → IsVerdict caps events (model.Races (map race_of races)) → (i : ℕ) × ((j : ℕ) × IsRace caps events x i j)
raced x races any is one caps events verdict =
    let (k, (r, at, same)) = at_found x races (sym is ∙ one) in
    (r.first, (r.second, subst (λ x. IsRace caps events x r.first r.second) same (race_in r (verdict.2.each k r at))))
  where
    race_in : (r : model.Race) → IsReportedRace caps events r.var r.first r.second → IsRace caps events r.var r.first r.second
    race_in r reported = reported.race

-- an illegal list is no legal one
pub illegal_is : (caps : ℕ → ℕ) (events : List Event) (index rule : ℕ) → IsVerdict caps events (model.Illegal index rule) → IsLegal caps events
    → (Any : Type 0) → Any
illegal_is caps events index rule verdict legal Any =
    let (e, at, breaks, before) = verdict in
    absurd (none_is (sym (legal index e at) ∙ breaks))
  where
    none_is : None ≡ Some rule → ⊥
    none_is is = cc
