use Rattle.race_model.proofs.laws.each_front_could_have_run.Goals as goal
use Rattle.race_model.proofs.PredictLemmas.{front_could_run}

pub returns : goal.returns
returns c = λ caps. front_could_run caps c.args._events.now
