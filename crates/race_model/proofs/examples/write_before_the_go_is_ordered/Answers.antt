use Rattle.race_model.proofs.ExampleLemmas.{verdicts}
use Rattle.race_model.proofs.examples.write_before_the_go_is_ordered.Goals as goal

pub returns : goal.returns
returns c = search verdicts
