use Rattle.race_model.proofs.ExampleLemmas.{verdicts}
use Rattle.race_model.proofs.lock_examples.an_rlock_sees_the_last_unlock.Goals as goal

pub returns : goal.returns
returns c = search verdicts
