use Rattle.std.proofs.Common.{ℕ, refl, arith}
use Rattle.race_model.{specs.{Race.IsReportedRace, Examples.x}, proofs.Uniqueness.reported_unique}
use Rattle.model_examples.{specs.Examples.three_writes, proofs.ReportedTests.reported_from}
use Rattle.model_examples.proofs.the_least_later_access_is_reported.Goals as goal

first : (caps : ℕ → ℕ) → IsReportedRace caps three_writes x 2 3
first caps = reported_from caps three_writes x 2 3 refl

pub returns-clause-least : goal.returns-clause-least
returns-clause-least c = first

pub returns-clause-later : goal.returns-clause-later
returns-clause-later c = λ caps is. let same = reported_unique 2 3 2 4 (first caps) is in absurd (omega (arith, same.1))

pub returns-clause-last : goal.returns-clause-last
returns-clause-last c = λ caps is. let same = reported_unique 2 3 3 4 (first caps) is in absurd (omega (arith, same.0))
