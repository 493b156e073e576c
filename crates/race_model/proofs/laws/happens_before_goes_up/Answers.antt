use Rattle.race_model.proofs.laws.happens_before_goes_up.Goals as goal
use Rattle.race_model.proofs.Ranks.{happens_before_up}

pub returns : goal.returns
returns c = λ caps. happens_before_up caps c.args._events.now
