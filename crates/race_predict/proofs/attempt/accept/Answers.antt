use Rattle.std.proofs.Common.{Err, ap, ◌∙◌}
use Rattle.race_legal.specs.Rules.{number_of}
use Rattle.race_predict.proofs.attempt.accept.Goals as goal

pub returns-in-Err-Rule-clause-refused : goal.returns-in-Err-Rule-clause-refused
returns-in-Err-Rule-clause-refused g c = λ is. (
  number_of c.in-Err-Rule.field-0-0,
  c.accept.ensures.least c.in-Err-Rule.field-0-0 (c.in-Err-Rule.is ∙ ap Err c.in-Err-Rule.field-0-is),
)
