use Rattle.std.proofs.Common.{◌≡◌, ℕ, ◌++◌, Option, None, Some, List, [], slice_get, codes, append-nil, refl, sym, arith, ap, ◌∙◌}
use Rattle.std.{specs.Fmt.digits, proofs.lemmas.Option.same_Some}
use Rattle.race_report.specs.Report.{clean_line}
use Rattle.race_explain.specs.{Shown.race_shown, Examples.{trace, race}}
use Rattle.race_explain.proofs.examples.a_verdict_is_shown_with_its_races.Goals as goal

pub returns-clause-clean : goal.returns-clause-clean
unfolding clean_line digits
returns-clause-clean c = (codes "why\n", tt, refl)

pub returns-clause-another_count : goal.returns-clause-another_count
unfolding clean_line digits
returns-clause-another_count c = λ (text, is, same). not_two (ap (λ (t : List ℕ). slice_get t 17) same)
  where
    not_two : ◌≡◌ {A = Option ℕ} (Some 49) (Some 50) → ⊥
    not_two byte = let same = same_Some 49 50 byte in absurd (omega (arith, same))

pub returns-clause-shown : goal.returns-clause-shown
returns-clause-shown c =
    (race_shown trace race ++ codes "why\n", [], (codes "why\n", refl), refl, sym (append-nil (race_shown trace race ++ codes "why\n")))

pub returns-clause-words : goal.returns-clause-words
unfolding race_shown
returns-clause-words c = λ (first, others, (words, shown), rest, same).
    let byte : ◌≡◌ {A = Option ℕ} (Some 119) (Some 10) = ap (λ (t : List ℕ). slice_get t 0) (same ∙ ap (λ t. t ++ others) shown) in cc

pub returns-clause-no_race : goal.returns-clause-no_race
returns-clause-no_race c = λ same. let byte : ◌≡◌ {A = Option ℕ} (Some 119) None = ap (λ (t : List ℕ). slice_get t 0) same in cc
