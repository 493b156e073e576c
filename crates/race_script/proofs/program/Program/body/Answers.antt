use Rattle.std.proofs.{lemmas.Grind.elements, Common.arith}
use Rattle.race_script.proofs.program.Program.body.Goals as goal

pub returns-clause-body : goal.returns-clause-body
returns-clause-body c = grind (arith, elements) steps 2000000
