use Rattle.race_model.proofs.ExampleLemmas.{verdicts}
use Rattle.race_model.proofs.examples.a_case_on_a_closed_channel_could_go_on.Goals as goal

pub returns : goal.returns
returns c = search verdicts
