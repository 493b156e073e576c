use Rattle.std.proofs.{lemmas.Grind.elements, Common.arith}
use Rattle.race_script.proofs.course.place_text.Goals as goal

pub returns-else-place-place_count : goal.returns-else-place-place_count
returns-else-place-place_count c = grind (arith, elements) steps 2000000
