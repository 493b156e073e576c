use Rattle.race_hub.proofs.FiringsLemmas.{starter_is_first}
use Rattle.race_hub.proofs.laws.a_starter_is_ready_first.Goals as goal

pub returns : goal.returns
returns c = starter_is_first
