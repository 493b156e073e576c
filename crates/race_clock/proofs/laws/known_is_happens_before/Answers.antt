use Rattle.race_clock.proofs.StampLaws.{known_is_happens_before}
use Rattle.race_clock.proofs.laws.known_is_happens_before.Goals as goal

pub returns : goal.returns
returns c = known_is_happens_before c.args._events.now
