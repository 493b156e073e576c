use Rattle.std.proofs.{lemmas.Grind.common_steps, Common.arith}
use Rattle.race_legal.proofs.channels.Channels.broken_by_send.Goals as goal

pub returns : goal.returns
returns g c = grind (arith, common_steps) steps 1000000
