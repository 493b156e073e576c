use Rattle.race_clock.proofs.StampLaws.{stamps_are_lawful}
use Rattle.race_clock.proofs.laws.stamps_are_lawful.Goals as goal

pub returns : goal.returns
returns c = stamps_are_lawful c.args._events.now
