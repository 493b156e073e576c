use Rattle.std.proofs.{lemmas.Grind.common_steps, Common.arith}
use Rattle.race_hub.specs.Hub.{stop_by}
use Rattle.race_hub.proofs.fields.Fields.stop.Goals as goal

pub returns-then-is_main_exit : goal.returns-then-is_main_exit
unfolding stop_by
returns-then-is_main_exit c = grind (arith, common_steps) steps 1000000

pub returns-then-is_fault : goal.returns-then-is_fault
unfolding stop_by
returns-then-is_fault c = grind (arith, common_steps) steps 1000000

pub returns-in-Some : goal.returns-in-Some
unfolding stop_by
returns-in-Some c = grind (arith, common_steps) steps 1000000

pub returns-then-len-self : goal.returns-then-len-self
unfolding stop_by
returns-then-len-self c = grind (arith, common_steps) steps 1000000

pub returns-else-len-self : goal.returns-else-len-self
unfolding stop_by
returns-else-len-self c = grind (arith, common_steps) steps 1000000
