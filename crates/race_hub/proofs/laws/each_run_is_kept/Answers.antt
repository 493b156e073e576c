use Rattle.race_hub.proofs.RunLemmas.{each_run_is_kept}
use Rattle.race_hub.proofs.laws.each_run_is_kept.Goals as goal

pub returns : goal.returns
returns g c = each_run_is_kept g.row.R.Denot
