use Rattle.race_model.proofs.ExampleLemmas.{verdicts}
use Rattle.race_model.proofs.once_examples.a_once_begins_once.Goals as goal

pub returns : goal.returns
returns c = search verdicts
