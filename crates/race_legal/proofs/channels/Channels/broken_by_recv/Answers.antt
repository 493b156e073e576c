use Rattle.std.proofs.{lemmas.Grind.common_steps, Common.arith}
use Rattle.race_legal.proofs.channels.Channels.broken_by_recv.Goals as goal

pub returns-in-Some : goal.returns-in-Some
returns-in-Some g c = grind (arith, common_steps) steps 300000
