use Rattle.std.proofs.Common.{ℕ, [], ◌∷◌, length, refl, ap, arith}
use Rattle.race_model.specs.{Examples.{x, race_on_x}, Verdict.{Verdict, IsVerdict, Races}}
use Rattle.race_model.proofs.{Uniqueness.verdict_unique, ExampleLemmas.{legal_from, some_races}}
use Rattle.model_examples.{specs.Examples.{y, race_of, on_y_then_on_x}, proofs.ReportedTests.two_from}
use Rattle.model_examples.proofs.each_variable_has_its_race.Goals as goal

verdict : (caps : ℕ → ℕ) → IsVerdict caps on_y_then_on_x (Races (race_of x 3 4 ∷ race_of y 1 2 ∷ []))
verdict caps = (
  legal_from caps on_y_then_on_x refl,
  some_races (race_of x 3 4) (race_of y 1 2 ∷ []),
  two_from caps on_y_then_on_x (race_of x 3 4) (race_of y 1 2) refl refl (omega arith) refl,
)

-- the first race's variable, and how many races there are
first_variable : Verdict → ℕ
first_variable (Races (r ∷ rs)) = r.var
first_variable _ = 0

count_races : Verdict → ℕ
count_races (Races rs) = length rs
count_races _ = 0

pub returns-clause-both : goal.returns-clause-both
returns-clause-both c = verdict

pub returns-clause-turned : goal.returns-clause-turned
unfolding first_variable
returns-clause-turned c = λ caps is.
    let same = verdict_unique caps on_y_then_on_x (Races (race_of x 3 4 ∷ race_of y 1 2 ∷ [])) (Races (race_of y 1 2 ∷ race_of x 3 4 ∷ [])) (verdict caps) is in
    absurd (omega (arith, ap first_variable same))

pub returns-clause-one : goal.returns-clause-one
unfolding count_races
returns-clause-one c = λ caps is.
    let same = verdict_unique caps on_y_then_on_x (Races (race_of x 3 4 ∷ race_of y 1 2 ∷ [])) (Races (race_on_x 3 4)) (verdict caps) is in
    absurd (omega (arith, ap count_races same))
