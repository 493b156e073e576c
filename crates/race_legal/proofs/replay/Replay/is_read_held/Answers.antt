use Rattle.std.proofs.Common.{rules}
use Rattle.race_legal.proofs.replay.Replay.is_read_held.Goals as goal

pub returns : goal.returns
returns g c = search rules steps 100000
