use Rattle.race_model.proofs.ExampleLemmas.{verdicts}
use Rattle.race_model.proofs.examples.reads_do_not_race.Goals as goal

pub returns : goal.returns
returns c = search verdicts
