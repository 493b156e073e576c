use Rattle.race_model.proofs.ExampleLemmas.{verdicts}
use Rattle.race_model.proofs.examples.each_case_of_a_select_counts.Goals as goal

pub returns : goal.returns
returns c = search verdicts
