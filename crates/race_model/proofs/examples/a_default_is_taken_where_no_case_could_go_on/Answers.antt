use Rattle.race_model.proofs.ExampleLemmas.{verdicts}
use Rattle.race_model.proofs.examples.a_default_is_taken_where_no_case_could_go_on.Goals as goal

pub returns : goal.returns
returns c = search verdicts
