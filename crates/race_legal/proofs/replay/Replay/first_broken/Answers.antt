use Rattle.std.proofs.Common.{rules}
use Rattle.race_legal.proofs.replay.Replay.first_broken.Goals as goal

pub returns-then-not-runs : goal.returns-then-not-runs
returns-then-not-runs g c = search rules steps 100000
