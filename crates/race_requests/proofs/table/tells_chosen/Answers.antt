use Rattle.std.proofs.Common.{rules}
use Rattle.race_requests.proofs.table.tells_chosen.Goals as goal

pub returns-in-Some-Some-Value : goal.returns-in-Some-Some-Value
returns-in-Some-Some-Value c = search rules steps 100000
