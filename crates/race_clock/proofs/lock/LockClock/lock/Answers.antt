use Rattle.std.proofs.Common.{rules}
use Rattle.race_clock.proofs.lock.LockClock.lock.Goals as goal

pub returns : goal.returns
returns g c = search rules steps 100000
