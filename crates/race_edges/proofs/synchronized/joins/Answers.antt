use Rattle.std.proofs.Common.{rules}
use Rattle.race_edges.proofs.synchronized.joins.Goals as goal

pub returns-then-receiver-from : goal.returns-then-receiver-from
returns-then-receiver-from c = search rules steps 300000
