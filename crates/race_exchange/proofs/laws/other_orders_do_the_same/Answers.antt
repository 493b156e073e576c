use Rattle.race_exchange.proofs.OtherOrders.{other_orders_do_the_same}
use Rattle.race_exchange.proofs.laws.other_orders_do_the_same.Goals as goal

pub returns : goal.returns
returns c = other_orders_do_the_same c.args._events.now
