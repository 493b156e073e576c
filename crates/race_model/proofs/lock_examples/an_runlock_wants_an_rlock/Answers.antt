use Rattle.race_model.proofs.ExampleLemmas.{verdicts}
use Rattle.race_model.proofs.lock_examples.an_runlock_wants_an_rlock.Goals as goal

pub returns : goal.returns
returns c = search verdicts
