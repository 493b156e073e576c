use Rattle.race_model.proofs.ExampleLemmas.{verdicts}
use Rattle.race_model.proofs.examples.a_meet_orders_both_ways.Goals as goal

pub returns : goal.returns
returns c = search verdicts
