use Rattle.race_script.proofs.TextFine.{text_has_no_fault}
use Rattle.race_script.proofs.laws.texts_have_no_fault.Goals as goal

pub returns : goal.returns
returns c = text_has_no_fault
