use Rattle.race_model.proofs.laws.has_one_verdict.Goals as goal
use Rattle.race_model.proofs.Uniqueness.{verdict_unique}

pub returns : goal.returns
returns c = λ caps. verdict_unique caps c.args._events.now
