use Rattle.std.proofs.Common.{rules}
use Rattle.race_records.proofs.operands.object_alone.Goals as goal

pub returns-in-Object : goal.returns-in-Object
returns-in-Object c = search rules steps 100000

pub returns-in_default-2 : goal.returns-in_default-2
returns-in_default-2 c = search rules steps 100000
