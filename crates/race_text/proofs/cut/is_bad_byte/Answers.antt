use Rattle.std.proofs.Common.{rules}
use Rattle.race_text.proofs.cut.is_bad_byte.Goals as goal

pub returns : goal.returns
returns c = search rules steps 100000
