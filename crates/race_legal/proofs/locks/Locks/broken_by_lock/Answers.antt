use Rattle.std.proofs.Common.{rules}
use Rattle.race_legal.proofs.locks.Locks.broken_by_lock.Goals as goal

pub returns : goal.returns
returns g c = search rules steps 100000
