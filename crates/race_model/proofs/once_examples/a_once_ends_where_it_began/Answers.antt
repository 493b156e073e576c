use Rattle.race_model.proofs.ExampleLemmas.{verdicts}
use Rattle.race_model.proofs.once_examples.a_once_ends_where_it_began.Goals as goal

pub returns : goal.returns
returns c = search verdicts
