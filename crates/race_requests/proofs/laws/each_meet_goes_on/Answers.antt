use Rattle.race_requests.proofs.PossibleLemmas.{each_meet}
use Rattle.race_requests.proofs.laws.each_meet_goes_on.Goals as goal

pub returns : goal.returns
returns c = each_meet
