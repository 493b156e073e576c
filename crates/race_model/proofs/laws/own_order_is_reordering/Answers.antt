use Rattle.race_model.proofs.laws.own_order_is_reordering.Goals as goal
use Rattle.race_model.proofs.OwnOrder.{own_is_reordering}

pub returns : goal.returns
returns c = λ caps. own_is_reordering caps c.args._events.now
