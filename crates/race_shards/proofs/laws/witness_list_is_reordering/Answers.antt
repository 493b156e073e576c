use Rattle.race_shards.proofs.WitnessLaws.{list_is_reordering}
use Rattle.race_shards.proofs.laws.witness_list_is_reordering.Goals as goal

pub returns : goal.returns
returns c = λ caps x i j order race is. list_is_reordering caps c.args._events.now x i j order race is
