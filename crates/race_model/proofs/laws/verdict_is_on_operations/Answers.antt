use Rattle.race_model.proofs.laws.verdict_is_on_operations.Goals as goal
use Rattle.race_model.proofs.PlacesAside.{verdict_alike}

pub returns : goal.returns
returns c = λ others same caps v right. verdict_alike c.args._events.now others same caps v right
