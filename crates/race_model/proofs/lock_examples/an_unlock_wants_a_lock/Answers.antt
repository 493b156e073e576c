use Rattle.race_model.proofs.ExampleLemmas.{verdicts}
use Rattle.race_model.proofs.lock_examples.an_unlock_wants_a_lock.Goals as goal

pub returns : goal.returns
returns c = search verdicts
