use Rattle.race_model.proofs.ExampleLemmas.{verdicts}
use Rattle.race_model.proofs.examples.rules_look_back.Goals as goal

pub returns : goal.returns
returns c = search verdicts
