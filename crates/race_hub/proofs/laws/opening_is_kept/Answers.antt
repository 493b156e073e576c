use Rattle.race_hub.proofs.FiringsLemmas.{opening_is_kept}
use Rattle.race_hub.proofs.laws.opening_is_kept.Goals as goal

pub returns : goal.returns
returns g c = opening_is_kept g.row.R.Denot
