use Rattle.race_script.proofs.TextFine.{equal_texts}
use Rattle.race_script.proofs.laws.equal_texts_are_of_equal_programs.Goals as goal

pub returns : goal.returns
returns c = equal_texts
