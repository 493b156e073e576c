use Rattle.std.proofs.Common.{rules}
use Rattle.race_edges.proofs.races.greatest_partner.Goals as goal

pub loop-index-preserved : goal.loop-index-preserved
loop-index-preserved g c = search rules steps 300000
