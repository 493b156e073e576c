use Rattle.race_model.proofs.ExampleLemmas.{verdicts}
use Rattle.race_model.proofs.lock_examples.a_lock_alone_orders_nothing.Goals as goal

pub returns : goal.returns
returns c = search verdicts
