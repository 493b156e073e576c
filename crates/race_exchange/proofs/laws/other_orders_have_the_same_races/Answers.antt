use Rattle.race_exchange.proofs.laws.other_orders_have_the_same_races.Goals as goal
use Rattle.race_exchange.proofs.RacesKept.{races_kept}

pub returns : goal.returns
returns c = λ caps other x alike. races_kept caps x alike
