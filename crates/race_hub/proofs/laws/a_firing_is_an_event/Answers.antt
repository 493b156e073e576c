use Rattle.race_hub.proofs.FiringsLemmas.{firing_is_an_event}
use Rattle.race_hub.proofs.laws.a_firing_is_an_event.Goals as goal

pub returns : goal.returns
returns g c = firing_is_an_event g.row.R.Denot
