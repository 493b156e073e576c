use Rattle.race_records.proofs.VisibleLemmas.{visible_is_text}
use Rattle.race_records.proofs.name.as_text.Goals as goal

pub from_utf8_unchecked-requires : goal.from_utf8_unchecked-requires
from_utf8_unchecked-requires c = visible_is_text c.args.word.now c.requires
