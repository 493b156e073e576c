use Rattle.race_model.proofs.ExampleLemmas.{verdicts}
use Rattle.race_model.proofs.try_examples.a_try_that_succeeds_locks.Goals as goal

pub returns : goal.returns
returns c = search verdicts
