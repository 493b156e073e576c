use Rattle.race_model.proofs.ExampleLemmas.{verdicts}
use Rattle.race_model.proofs.try_examples.a_try_may_fail_at_any_time.Goals as goal

pub returns : goal.returns
returns c = search verdicts
