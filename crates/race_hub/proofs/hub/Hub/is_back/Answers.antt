use Rattle.std.proofs.Common.{rules}
use Rattle.race_hub.proofs.hub.Hub.is_back.Goals as goal

pub returns : goal.returns
returns g c = search rules steps 100000
