use Rattle.std.proofs.{lemmas.Grind.common_steps, Common.{rules, arith}}
use Rattle.race_text.proofs.common.deed_said.Goals as goal

pub returns-in-Read-Var-Some-clause-op : goal.returns-in-Read-Var-Some-clause-op
returns-in-Read-Var-Some-clause-op g c = search rules steps 100000

pub is_rw-requires-in-None-this-14 : goal.is_rw-requires-in-None-this-14
is_rw-requires-in-None-this-14 c = grind (arith, common_steps) steps 300000
