use Rattle.std.proofs.Common.{rules}
use Rattle.race_requests.proofs.meet.meet_event.Goals as goal

pub returns-in-Some : goal.returns-in-Some
returns-in-Some c = search rules steps 100000
