use Rattle.std.proofs.{lemmas.Grind.common_steps, Common.arith}
use Rattle.race_script.proofs.reader.count_lines.Goals as goal

pub overflow_add-count-in-loop-body : goal.overflow_add-count-in-loop-body
overflow_add-count-in-loop-body c = grind (arith, common_steps) steps 1000000

pub loop-body-preserved : goal.loop-body-preserved
loop-body-preserved c = grind (arith, common_steps) steps 1000000

pub returns : goal.returns
returns c = grind (arith, common_steps) steps 300000
