use Rattle.std.proofs.{lemmas.Grind.common_steps, Common.arith}
use Rattle.race_legal.proofs.channels.Channels.can_proceed.Goals as goal

pub returns-then-capacity-gt0 : goal.returns-then-capacity-gt0
returns-then-capacity-gt0 g c = grind (arith, common_steps) steps 300000
