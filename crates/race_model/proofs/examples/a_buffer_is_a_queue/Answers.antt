use Rattle.race_model.proofs.ExampleLemmas.{verdicts}
use Rattle.race_model.proofs.examples.a_buffer_is_a_queue.Goals as goal

pub returns : goal.returns
returns c = search verdicts
