use Rattle.race_model.proofs.ExampleLemmas.{verdicts}
use Rattle.race_model.proofs.examples.a_buffered_operation_is_not_one_point.Goals as goal

pub returns : goal.returns
returns c = search verdicts
