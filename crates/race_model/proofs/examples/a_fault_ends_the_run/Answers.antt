use Rattle.race_model.proofs.ExampleLemmas.{verdicts}
use Rattle.race_model.proofs.examples.a_fault_ends_the_run.Goals as goal

pub returns : goal.returns
returns c = search verdicts
