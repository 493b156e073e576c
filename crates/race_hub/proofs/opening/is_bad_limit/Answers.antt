use Rattle.std.proofs.Common.{rules}
use Rattle.race_hub.proofs.opening.is_bad_limit.Goals as goal

pub returns-then-limit-eq0 : goal.returns-then-limit-eq0
returns-then-limit-eq0 c = search rules steps 300000

pub returns-else-limit-eq0 : goal.returns-else-limit-eq0
returns-else-limit-eq0 c = search rules steps 300000
