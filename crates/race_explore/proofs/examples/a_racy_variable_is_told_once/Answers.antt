use Rattle.std.proofs.Common.{◌≡◌, ℕ, zero, suc, ◌<◌, List, [], ◌∷◌, Some, true, false, refl, sym, ap, ◌∙◌, subst, arith, inl, inr}
use Rattle.std.{specs.Prelude.slice_get, proofs.lemmas.{List.Elements.{All-head, All-nil}, Option.same_Some}}
use Rattle.race_records.specs.declared.event.Op.TheVariants.{Read, Write}
use Rattle.race_model.specs.Verdict as model
use Rattle.race_verdict.specs.{declared.report.ReportedRace.ReportedRace, Examples.{does, write_and_read}, Notes.{IsNotedRaceOf, race_noted}}
use Rattle.race_explore.specs.{declared.explored.RacyVariable.RacyVariable, Looked.Looked, Told.{AreRacy, IsNewRacy, ShowsRace, HasRace, NoneBefore, is_racy_on, racy_runs}}
use Rattle.race_explore.specs.Examples.{three, first_run, second_run, third_run, race, races}
use Rattle.race_explore.proofs.{NotingLemmas.no_race_told, RacyLemmas.{noted_first, noted_more, noted_all, has_race}}
use Rattle.race_explore.proofs.examples.a_racy_variable_is_told_once.Goals as goal

abbrev V : Type 0
V = RacyVariable (Unit {0})

abbrev found : model.Race
found = race_noted race

nothing_told : AreRacy {A = Unit {0}} [] []
nothing_told = record {
  shown = All-nil (ShowsRace {A = Unit {0}} []);
  runs = All-nil (λ (v : V). v.runs ≡ racy_runs [] v.race.var);
  every = λ x some. absurd (omega (arith, some));
  once = λ k m v w at there same. cc;
}

noted : IsNotedRaceOf write_and_read race
noted = (
  record { event = does 1 (Write 0 7) 1; stands = refl; access = refl; write = refl; who = refl; place = refl },
  record { event = does 0 (Read 0 7) 2; stands = refl; access = refl; write = refl; who = refl; place = refl },
)

pub returns-clause-first : goal.returns-clause-first
returns-clause-first c = λ v (is, runs, picks).
    let one : V = record v { runs = 1 } in
    let two : V = record v { runs = 2 } in
    let new_one : IsNewRacy write_and_read (1 ∷ []) found one =
    record { race = ap race_noted is; accesses = subst (IsNotedRaceOf write_and_read) (sym is) noted; picks = picks; runs = refl } in
    let has : HasRace races found = has_race (found ∷ []) 0 found refl in
    let none : AreRacy {A = Unit {0}} (first_run ∷ []) [] = no_race_told {A = Unit {0}} [] first_run [] (λ x. refl) nothing_told in
    let first : AreRacy (first_run ∷ second_run ∷ []) (one ∷ []) =
    noted_all {A = Unit {0}} (first_run ∷ []) second_run (one ∷ []) (noted_more {A = Unit {0}} (first_run ∷ []) second_run [] found [] (one ∷ [])
    (noted_first {A = Unit {0}} (first_run ∷ []) second_run (model.Races []) [] (λ x. refl) none) refl has (inr ((λ k w at on. cc), one, new_one, refl))) in
    let second : AreRacy three (two ∷ []) =
    noted_all {A = Unit {0}} (first_run ∷ second_run ∷ []) third_run (two ∷ []) (noted_more {A = Unit {0}} (first_run ∷ second_run ∷ []) third_run [] found (one ∷ []) (two ∷ [])
    (noted_first {A = Unit {0}} (first_run ∷ second_run ∷ []) third_run (model.Races []) (one ∷ []) (λ x. refl) first) refl has
    (inl (0, one, refl, ap (λ (r : ReportedRace). r.var) is, refl))) in
    subst (λ (w : V). AreRacy three (w ∷ [])) (λ i. record v { runs = sym runs i }) second

-- the first run with the race is by pick 1
by_one : (v : V) → v.race ≡ race → (k : ℕ) (looked : Looked) → slice_get three k ≡ Some looked
    → NoneBefore three k (λ earlier. is_racy_on v.race.var earlier.verdict) → looked.picks ≡ 2 ∷ [] → ⊥
by_one v is zero looked at first picks =
    let other : ◌≡◌ {A = List ℕ} (0 ∷ []) (2 ∷ []) = ap (λ (l : Looked). l.picks) (same_Some first_run looked at) ∙ picks in cc
by_one v is (suc zero) looked at first picks =
    let other : ◌≡◌ {A = List ℕ} (1 ∷ []) (2 ∷ []) = ap (λ (l : Looked). l.picks) (same_Some second_run looked at) ∙ picks in cc
by_one v is (suc (suc k)) looked at first picks =
    let none : true ≡ false = ap (λ (r : ReportedRace). is_racy_on r.var races) (sym is) ∙ first 1 second_run (omega arith) refl in cc

pub returns-clause-second : goal.returns-clause-second
returns-clause-second c = λ v (is, runs, picks) are.
    let s = All-head (ShowsRace {A = Unit {0}} three) v [] are.shown in by_one v is s.k s.looked s.among s.first (sym s.picks ∙ picks)

pub returns-clause-count : goal.returns-clause-count
returns-clause-count c = λ v (is, runs, picks) are.
    let counted : v.runs ≡ racy_runs three v.race.var = All-head (λ (w : V). w.runs ≡ racy_runs three w.race.var) v [] are.runs in
    let two : ◌≡◌ {A = ℕ} 1 2 = sym runs ∙ counted ∙ ap (λ (r : ReportedRace). racy_runs three r.var) is in absurd (omega (arith, two))

pub returns-clause-none : goal.returns-clause-none
returns-clause-none c = λ are. let some : 0 < 2 = omega arith in let (k, v, at, on) = are.every 0 some in cc

pub returns-clause-twice : goal.returns-clause-twice
returns-clause-twice c = λ v are. let same : ◌≡◌ {A = ℕ} 0 1 = are.once 0 1 v v refl refl refl in absurd (omega (arith, same))
