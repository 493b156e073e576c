use Rattle.race_model.proofs.laws.as_many_locks_as_unlocks_stand_before_an_rlock.Goals as goal
use Rattle.race_model.proofs.LockOrder.{rlock_between}

pub returns : goal.returns
returns c = λ caps legal. rlock_between caps c.args._events.now legal
