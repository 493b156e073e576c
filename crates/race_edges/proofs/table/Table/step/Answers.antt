use Rattle.std.proofs.{lemmas.Grind.common_steps, Common.arith}
use Rattle.race_edges.proofs.table.Table.step.Goals as goal

pub returns-clause-after : goal.returns-clause-after
returns-clause-after g c = grind (arith, common_steps) steps 1000000
