use Rattle.race_model.proofs.ExampleLemmas.{verdicts}
use Rattle.race_model.proofs.lock_examples.an_unlock_fails_where_nothing_is_locked.Goals as goal

pub returns : goal.returns
returns c = search verdicts
