use Rattle.std.proofs.{lemmas.Grind.common_steps, Common.arith}
use Rattle.race_hub.proofs.job.Job.turn.Goals as goal

pub returns-clause-called : goal.returns-clause-called
returns-clause-called g c = grind (arith, common_steps) steps 300000

pub invariant_of-self : goal.invariant_of-self
invariant_of-self c = grind (arith, common_steps) steps 1000000

pub invariant_of-self-2 : goal.invariant_of-self-2
invariant_of-self-2 c = grind (arith, common_steps) steps 1000000

pub returns-clause-asked : goal.returns-clause-asked
returns-clause-asked c = grind (arith, common_steps) steps 1000000

pub returns-clause-kept : goal.returns-clause-kept
returns-clause-kept c = grind (arith, common_steps) steps 1000000

pub returns-in-Some-clause-asked : goal.returns-in-Some-clause-asked
returns-in-Some-clause-asked c = grind (arith, common_steps) steps 1000000

pub returns-in-Some-clause-called : goal.returns-in-Some-clause-called
returns-in-Some-clause-called c = grind (arith, common_steps) steps 1000000
