use Rattle.race_model.{specs.Reorder.own_order, proofs.{OwnOrder.own_is_reordering, ReorderLemmas.same_finds}}
use Rattle.race_model.proofs.laws.reorderings_find_the_same.Goals as goal

pub returns : goal.returns
returns c = λ caps free order is. same_finds caps c.args._events.now free order (own_order c.args._events.now) is (own_is_reordering caps c.args._events.now)
