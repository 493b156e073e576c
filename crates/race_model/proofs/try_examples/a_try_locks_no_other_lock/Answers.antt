use Rattle.race_model.proofs.ExampleLemmas.{verdicts}
use Rattle.race_model.proofs.try_examples.a_try_locks_no_other_lock.Goals as goal

pub returns : goal.returns
returns c = search verdicts
