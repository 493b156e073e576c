use Rattle.race_model.proofs.ExampleLemmas.{verdicts}
use Rattle.race_model.proofs.try_examples.a_try_succeeds_where_the_lock_could_be_locked.Goals as goal

pub returns : goal.returns
returns c = search verdicts
