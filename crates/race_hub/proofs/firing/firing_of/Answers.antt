use Rattle.std.proofs.{lemmas.Grind.elements, Common.arith}
use Rattle.race_hub.proofs.firing.firing_of.Goals as goal

pub unreachable-requires : goal.unreachable-requires
unreachable-requires c = grind (arith, elements) steps 1000000

pub returns-clause-rows : goal.returns-clause-rows
returns-clause-rows c = grind (arith, elements) steps 1000000
