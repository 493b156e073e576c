use Rattle.race_hub.proofs.FiringsLemmas.{meet_is_fired}
use Rattle.race_hub.proofs.laws.a_meet_is_fired.Goals as goal

pub returns : goal.returns
returns c = meet_is_fired
