use Rattle.race_model.proofs.laws.unlocks_of_a_lower_number_stand_before_a_lock.Goals as goal
use Rattle.race_model.proofs.LockOrder.{unlock_order}

pub returns : goal.returns
returns c = λ caps legal. unlock_order caps c.args._events.now legal
