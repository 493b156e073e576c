use Rattle.std.proofs.Common.{rules}
use Rattle.race_records.proofs.kind.Named.is_of.Goals as goal

pub returns-in_default-5 : goal.returns-in_default-5
returns-in_default-5 c = search rules steps 100000
