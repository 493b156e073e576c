use Rattle.std.proofs.{Common.arith, lemmas.Grind.common_steps}
use Rattle.race_clock.proofs.clocks.Clocks.read_lock.Goals as goal

pub returns-clause-ok : goal.returns-clause-ok
returns-clause-ok g c = grind (arith, common_steps) steps 2000000

pub returns-clause-unchanged : goal.returns-clause-unchanged
returns-clause-unchanged g c = grind (arith, common_steps) steps 2000000
