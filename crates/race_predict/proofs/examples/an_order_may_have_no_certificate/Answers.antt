use Rattle.std.proofs.Common.{◌≡◌, ℕ, refl}
use Rattle.race_records.specs.declared.event.Op.TheVariants.{Write}
use Rattle.race_model.specs.{Examples.{w, x, does}, PredictExamples.main_locks_first}
use Rattle.race_predict.specs.Examples.{trace}
use Rattle.race_predict.proofs.ExampleLemmas.{locks_certificate}
use Rattle.race_predict.proofs.examples.an_order_may_have_no_certificate.Goals as goal

pub returns-clause-without_go : goal.returns-clause-without_go
returns-clause-without_go c = λ other is.
    let counts : ◌≡◌ {A = ℕ} 0 1 = is.made.in_turn 0 1 (does w (Write x 1)) refl refl w refl in cc

pub returns-clause-with_go : goal.returns-clause-with_go
returns-clause-with_go c = λ none. none (trace main_locks_first) locks_certificate
