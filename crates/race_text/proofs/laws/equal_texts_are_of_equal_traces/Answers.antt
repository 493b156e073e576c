use Rattle.race_text.proofs.TextLaws.{equal_texts}
use Rattle.race_text.proofs.laws.equal_texts_are_of_equal_traces.Goals as goal

pub returns : goal.returns
returns c = equal_texts
