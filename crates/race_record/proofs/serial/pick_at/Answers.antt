use Rattle.std.proofs.{lemmas.Grind.elements, Common.arith}
use Rattle.race_record.proofs.serial.pick_at.Goals as goal

pub returns-in-Some : goal.returns-in-Some
returns-in-Some c = grind (arith, elements) steps 1000000

pub returns-in-None : goal.returns-in-None
returns-in-None c = grind (arith, elements) steps 1000000
