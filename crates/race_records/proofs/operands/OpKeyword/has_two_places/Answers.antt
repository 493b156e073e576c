use Rattle.std.proofs.Common.{rules}
use Rattle.race_records.proofs.operands.OpKeyword.has_two_places.Goals as goal

pub returns-in_default : goal.returns-in_default
returns-in_default c = search rules steps 100000
