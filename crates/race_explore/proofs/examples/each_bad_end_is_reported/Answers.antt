use Rattle.std.proofs.Common.{◌≡◌, ℕ, ◌<◌, List, [], ◌∷◌, refl, sym, ◌∙◌, arith, inr}
use Rattle.std.proofs.lemmas.List.Elements.{All-head, All-nil}
use Rattle.race_hub.specs.declared.ending.End.{End}
use Rattle.race_explore.specs.{declared.stuck.{BadEnd.BadEnd, Standing.Standing}, Ends.{AreBadEnds, ShowsEnd, ended_runs}}
use Rattle.race_explore.specs.Examples.{at, three, first_run, second_run, third_run}
use Rattle.race_explore.proofs.BadEndLemmas.{bad_counted}
use Rattle.race_explore.proofs.examples.each_bad_end_is_reported.Goals as goal

abbrev B : Type 0
B = BadEnd (Unit {0})

nothing_reported : AreBadEnds {A = Unit {0}} [] []
nothing_reported = record {
  shown = All-nil (ShowsEnd {A = Unit {0}} []);
  runs = All-nil (λ (b : B). b.runs ≡ ended_runs [] b.end b.standing.items);
  every = λ end standing some. absurd (omega (arith, some));
  once = λ k m b d at there end standing. cc;
}

pub returns-clause-deadlock : goal.returns-clause-deadlock
returns-clause-deadlock c = λ b (end, standing, runs, picks).
    bad_counted {A = Unit {0}} (first_run ∷ second_run ∷ []) third_run [] (b ∷ [])
    (inr ((λ k d at is. cc), b, record { end = end; standing = standing; picks = picks; runs = runs }, refl))
    (bad_counted {A = Unit {0}} (first_run ∷ []) second_run [] [] refl (bad_counted {A = Unit {0}} [] first_run [] [] refl nothing_reported))

-- a report of one run says that one ended so
one_ended : (b : B) (end : End) (standing : List Standing) → AreBadEnds three (b ∷ []) → b.end ≡ end → b.standing.items ≡ standing
    → b.runs ≡ 1 → ended_runs three end standing ≡ 1
one_ended b end standing are is stands runs =
    let counted : b.runs ≡ ended_runs three b.end b.standing.items =
    All-head (λ (d : B). d.runs ≡ ended_runs three d.end d.standing.items) b [] are.runs in
    (λ i. ended_runs three (sym is i) (sym stands i)) ∙ sym counted ∙ runs

pub returns-clause-elsewhere : goal.returns-clause-elsewhere
returns-clause-elsewhere c = λ b (end, standing, runs, picks) are.
    let one : ◌≡◌ {A = ℕ} 0 1 = one_ended b End.Deadlock (at 0 3 ∷ []) are end standing runs in absurd (omega (arith, one))

pub returns-clause-main : goal.returns-clause-main
returns-clause-main c = λ b (end, standing, runs, picks) are.
    let one : ◌≡◌ {A = ℕ} 0 1 = one_ended b End.Main [] are end standing runs in absurd (omega (arith, one))

pub returns-clause-none : goal.returns-clause-none
returns-clause-none c = λ are.
    let some : 0 < 1 = omega arith in
    let (k, b, there, end, standing) = are.every End.Deadlock (at 0 3 ∷ at 1 4 ∷ []) some in cc
