use Rattle.std.proofs.Common.{refl, arith}
use Rattle.race_explore.proofs.examples.picks_go_on_with_zero.Goals as goal

pub returns-clause-zero : goal.returns-clause-zero
returns-clause-zero c = (refl, (refl, tt))

pub returns-clause-one : goal.returns-clause-one
returns-clause-one c = λ (same, (none, rest)). absurd (omega (arith, none))

pub returns-clause-another : goal.returns-clause-another
returns-clause-another c = λ (same, rest). absurd (omega (arith, same))

pub returns-clause-left_over : goal.returns-clause-left_over
returns-clause-left_over c = (refl, tt)
