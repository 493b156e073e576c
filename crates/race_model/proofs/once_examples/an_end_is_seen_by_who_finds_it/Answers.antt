use Rattle.race_model.proofs.ExampleLemmas.{verdicts}
use Rattle.race_model.proofs.once_examples.an_end_is_seen_by_who_finds_it.Goals as goal

pub returns : goal.returns
returns c = search verdicts
