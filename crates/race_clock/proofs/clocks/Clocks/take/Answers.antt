use Rattle.std.proofs.{Common.arith, lemmas.Grind.common_steps}
use Rattle.race_clock.proofs.clocks.Clocks.take.Goals as goal

pub meet-requires-clause-other : goal.meet-requires-clause-other
meet-requires-clause-other g c = grind (arith, common_steps) steps 300000
