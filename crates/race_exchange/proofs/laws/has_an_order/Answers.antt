use Rattle.race_exchange.proofs.InOrder.{has_an_order}
use Rattle.race_exchange.proofs.laws.has_an_order.Goals as goal

pub returns : goal.returns
returns c = has_an_order c.args._events.now
