use Rattle.race_model.proofs.ExampleLemmas.{verdicts}
use Rattle.race_model.proofs.once_examples.a_once_is_left_before_the_exit.Goals as goal

pub returns : goal.returns
returns c = search verdicts
