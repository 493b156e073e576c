use Rattle.race_model.proofs.ExampleLemmas.{verdicts}
use Rattle.race_model.proofs.lock_examples.readers_share_a_lock.Goals as goal

pub returns : goal.returns
returns c = search verdicts
