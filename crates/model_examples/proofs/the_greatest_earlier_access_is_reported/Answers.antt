use Rattle.std.proofs.Common.{ℕ, refl, arith}
use Rattle.race_model.{specs.{Race.IsReportedRace, Examples.x}, proofs.Uniqueness.reported_unique}
use Rattle.model_examples.{specs.Examples.two_reads_then_a_write, proofs.ReportedTests.reported_from}
use Rattle.model_examples.proofs.the_greatest_earlier_access_is_reported.Goals as goal

last : (caps : ℕ → ℕ) → IsReportedRace caps two_reads_then_a_write x 3 4
last caps = reported_from caps two_reads_then_a_write x 3 4 refl

pub returns-clause-greatest : goal.returns-clause-greatest
returns-clause-greatest c = last

pub returns-clause-earlier : goal.returns-clause-earlier
returns-clause-earlier c = λ caps is. let same = reported_unique 3 4 2 4 (last caps) is in absurd (omega (arith, same.0))
