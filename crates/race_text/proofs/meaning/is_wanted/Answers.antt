use Rattle.std.proofs.Common.{rules}
use Rattle.race_text.proofs.meaning.is_wanted.Goals as goal

pub returns-in-Object-default : goal.returns-in-Object-default
returns-in-Object-default g c = search rules steps 300000
