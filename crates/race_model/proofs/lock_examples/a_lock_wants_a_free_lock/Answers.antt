use Rattle.race_model.proofs.ExampleLemmas.{verdicts}
use Rattle.race_model.proofs.lock_examples.a_lock_wants_a_free_lock.Goals as goal

pub returns : goal.returns
returns c = search verdicts
