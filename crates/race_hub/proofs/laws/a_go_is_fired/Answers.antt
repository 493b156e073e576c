use Rattle.race_hub.proofs.FiringsLemmas.{go_is_fired}
use Rattle.race_hub.proofs.laws.a_go_is_fired.Goals as goal

pub returns : goal.returns
returns c = go_is_fired
