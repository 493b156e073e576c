use Rattle.race_shards.proofs.WitnessLaws.{list_is_one}
use Rattle.race_shards.proofs.laws.witness_list_is_one.Goals as goal

pub returns : goal.returns
returns c = λ caps i j one two a b. list_is_one caps c.args._events.now i j one two a b
