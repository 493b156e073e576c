use Rattle.race_access.proofs.StampSteps.{touches_lawful}
use Rattle.race_access.proofs.laws.touches_are_lawful.Goals as goal

pub returns : goal.returns
returns c caps x touched stamps = touches_lawful caps c.args._events.now x touched stamps
