use Rattle.race_clock.proofs.JoinLemmas.{joined_one, length_joined, joined_nothing}
use Rattle.std.proofs.Common.{arith}
use Rattle.race_clock.proofs.clock.raise.Goals as goal

pub loop-index-preserved : goal.loop-index-preserved
loop-index-preserved c = grind (arith, joined_one, length_joined, joined_nothing) steps 300000
