use Rattle.std.proofs.Common.{rules}
use Rattle.race_records.proofs.name.is_place.Goals as goal

pub returns : goal.returns
returns c = search rules steps 100000
