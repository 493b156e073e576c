use Rattle.race_model.proofs.laws.ends_in_a_race.Goals as goal
use Rattle.race_model.proofs.PredictLemmas.{race_at_end}

pub returns : goal.returns
returns c = λ caps. race_at_end caps c.args._events.now
