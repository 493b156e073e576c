use Rattle.std.proofs.{lemmas.Grind.common_steps, Common.arith}
use Rattle.race_script.proofs.reader.Reader.may_begin.Goals as goal

pub returns-then-is_none : goal.returns-then-is_none
returns-then-is_none g c = grind (arith, common_steps) steps 300000
