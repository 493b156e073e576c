use Rattle.std.proofs.Common.{◌<◌, length, arith}
use Rattle.race_search.proofs.PairLemmas.{has_pair_if}
use Rattle.race_search.proofs.predictions.races_of.Goals as goal

pub loop-candidate-preserved : goal.loop-candidate-preserved
loop-candidate-preserved g c =
    let less : length c.loop-candidate.found.items < c.args.most = let len = c.len.ensures in omega (arith, len) in
    let added = c.in_ok-add_race.ensures in
    record {
      found = added.races c.args.recorded.now c.loop-candidate.invariant.found c.in_ok-prediction.ensures.found;
      most = omega (arith, less, added.one_more);
    }

pub add_race-requires : goal.add_race-requires
add_race-requires g c = has_pair_if c.args.recorded.now c.in_ok-prediction.prediction c.in_ok-prediction.ensures.found
