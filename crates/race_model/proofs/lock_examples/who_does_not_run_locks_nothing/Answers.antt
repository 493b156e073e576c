use Rattle.race_model.proofs.ExampleLemmas.{verdicts}
use Rattle.race_model.proofs.lock_examples.who_does_not_run_locks_nothing.Goals as goal

pub returns : goal.returns
returns c = search verdicts
