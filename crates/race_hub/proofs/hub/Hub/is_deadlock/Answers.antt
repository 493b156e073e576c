use Rattle.std.proofs.{lemmas.Grind.common_steps, Common.arith}
use Rattle.race_hub.proofs.hub.Hub.is_deadlock.Goals as goal

pub returns-then-is_empty-2 : goal.returns-then-is_empty-2
returns-then-is_empty-2 c = grind (arith, common_steps) steps 300000
