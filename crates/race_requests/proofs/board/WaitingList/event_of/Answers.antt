use Rattle.std.proofs.Common.{rules}
use Rattle.race_requests.proofs.board.WaitingList.event_of.Goals as goal

pub returns : goal.returns
returns g c = search rules steps 300000
