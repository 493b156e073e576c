use Rattle.race_exchange.proofs.OtherOrders.{other_orders_legal}
use Rattle.race_exchange.proofs.laws.other_orders_are_legal.Goals as goal

pub returns : goal.returns
returns c = λ caps. other_orders_legal caps c.args._events.now
