use Rattle.race_model.proofs.ExampleLemmas.{verdicts}
use Rattle.race_model.proofs.examples.a_receive_makes_room_for_a_send.Goals as goal

pub returns : goal.returns
returns c = search verdicts
