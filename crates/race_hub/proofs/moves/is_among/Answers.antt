use Rattle.std.proofs.{lemmas.Grind.common_steps, Common.arith}
use Rattle.race_hub.proofs.moves.is_among.Goals as goal

pub loop-at-preserved : goal.loop-at-preserved
loop-at-preserved c = grind (arith, common_steps) steps 1000000
