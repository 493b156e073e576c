use Rattle.race_model.proofs.ExampleLemmas.{verdicts}
use Rattle.race_model.proofs.examples.first_broken_rules.Goals as goal

pub returns : goal.returns
returns c = search verdicts
