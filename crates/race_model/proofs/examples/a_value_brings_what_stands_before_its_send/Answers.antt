use Rattle.race_model.proofs.ExampleLemmas.{verdicts}
use Rattle.race_model.proofs.examples.a_value_brings_what_stands_before_its_send.Goals as goal

pub returns : goal.returns
returns c = search verdicts
