use Rattle.race_model.proofs.ExampleLemmas.{verdicts}
use Rattle.race_model.proofs.lock_examples.an_runlock_is_seen_by_the_next_lock.Goals as goal

pub returns : goal.returns
returns c = search verdicts
