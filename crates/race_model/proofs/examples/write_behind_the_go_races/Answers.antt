use Rattle.race_model.proofs.ExampleLemmas.{verdicts}
use Rattle.race_model.proofs.examples.write_behind_the_go_races.Goals as goal

pub returns : goal.returns
returns c = search verdicts
