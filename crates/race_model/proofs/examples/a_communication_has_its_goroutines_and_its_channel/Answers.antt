use Rattle.race_model.proofs.ExampleLemmas.{verdicts}
use Rattle.race_model.proofs.examples.a_communication_has_its_goroutines_and_its_channel.Goals as goal

pub returns : goal.returns
returns c = search verdicts
