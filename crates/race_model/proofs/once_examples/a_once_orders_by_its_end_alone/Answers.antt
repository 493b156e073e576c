use Rattle.race_model.proofs.ExampleLemmas.{verdicts}
use Rattle.race_model.proofs.once_examples.a_once_orders_by_its_end_alone.Goals as goal

pub returns : goal.returns
returns c = search verdicts
