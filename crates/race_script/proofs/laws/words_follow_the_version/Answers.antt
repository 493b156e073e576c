use Rattle.race_script.proofs.{ReadLemmas.header_said, SaidAgain.ask_known}
use Rattle.race_script.proofs.laws.words_follow_the_version.Goals as goal

pub returns : goal.returns
returns c = record { header_known = header_said; asks_known = ask_known }
