use Rattle.race_model.proofs.ExampleLemmas.{verdicts}
use Rattle.race_model.proofs.examples.a_default_orders_nothing.Goals as goal

pub returns : goal.returns
returns c = search verdicts
