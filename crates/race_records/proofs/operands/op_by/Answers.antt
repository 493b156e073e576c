use Rattle.std.proofs.Common.{rules}
use Rattle.race_records.proofs.operands.op_by.Goals as goal

pub returns-in-RLock : goal.returns-in-RLock
returns-in-RLock c = search rules steps 300000
