use Rattle.race_model.proofs.ExampleLemmas.{verdicts}
use Rattle.race_model.proofs.lock_examples.an_unlock_is_seen_by_each_later_lock.Goals as goal

pub returns : goal.returns
returns c = search verdicts
