use Rattle.race_model.proofs.ExampleLemmas.{verdicts}
use Rattle.race_model.proofs.once_examples.a_once_is_done_when_it_ended.Goals as goal

pub returns : goal.returns
returns c = search verdicts
