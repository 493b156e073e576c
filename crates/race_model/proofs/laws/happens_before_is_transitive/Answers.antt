use Rattle.race_model.proofs.laws.happens_before_is_transitive.Goals as goal
use Rattle.race_model.proofs.BeforeSeen.{happens_before_on}

pub returns : goal.returns
returns c = λ caps. happens_before_on caps c.args._events.now
