use Rattle.std.proofs.{lemmas.Grind.common_steps, Common.arith}
use Rattle.race_text.proofs.writing.print_case.Goals as goal

pub returns : goal.returns
returns c = grind (arith, common_steps) steps 2000000
