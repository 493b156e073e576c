use Rattle.race_access.proofs.StampSteps.{reported_on}
use Rattle.race_access.proofs.laws.touches_race_as_events.Goals as goal

pub returns : goal.returns
returns c caps x touched stamps = reported_on caps c.args._events.now x touched stamps
