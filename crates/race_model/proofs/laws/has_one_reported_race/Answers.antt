use Rattle.race_model.proofs.laws.has_one_reported_race.Goals as goal
use Rattle.race_model.proofs.Uniqueness.{reported_unique}

pub returns : goal.returns
returns c = λ caps x i j k m p q. reported_unique i j k m p q
