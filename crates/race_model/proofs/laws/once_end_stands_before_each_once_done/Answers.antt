use Rattle.race_model.proofs.laws.once_end_stands_before_each_once_done.Goals as goal
use Rattle.race_model.proofs.LockOrder.{end_first}

pub returns : goal.returns
returns c = λ caps legal. end_first caps c.args._events.now legal
