use Rattle.std.proofs.Common.{rules}
use Rattle.race_edges.proofs.judge.plain_judge.Goals as goal

pub returns-in-Ok-clause-right : goal.returns-in-Ok-clause-right
returns-in-Ok-clause-right g c = search rules steps 100000

pub returns-in-Err-clause-judged : goal.returns-in-Err-clause-judged
returns-in-Err-clause-judged g c = search rules steps 100000
