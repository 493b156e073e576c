use Rattle.race_script.proofs.Scanning.{faultless_is_text}
use Rattle.race_script.proofs.laws.faultless_bytes_are_texts.Goals as goal

pub returns : goal.returns
returns c = faultless_is_text
