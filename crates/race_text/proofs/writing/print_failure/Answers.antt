use Rattle.std.proofs.{lemmas.Grind.common_steps, Common.arith}
use Rattle.race_text.proofs.writing.print_failure.Goals as goal

pub name-name-requires : goal.name-name-requires
name-name-requires c = grind (arith, common_steps) steps 1000000

pub returns : goal.returns
returns c = grind (arith, common_steps) steps 2000000
