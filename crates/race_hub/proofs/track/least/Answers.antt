use Rattle.std.proofs.{lemmas.Grind.{common_steps, elements}, Common.arith}
use Rattle.race_hub.proofs.track.least.Goals as goal

pub returns-clause-some : goal.returns-clause-some
returns-clause-some c = grind (arith, elements) steps 1000000

pub returns-clause-none : goal.returns-clause-none
returns-clause-none c = grind (arith, common_steps) steps 1000000
