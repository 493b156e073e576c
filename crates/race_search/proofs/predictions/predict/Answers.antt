use Rattle.std.proofs.lemmas.List.Sorted.{All-permutation}
use Rattle.race_predict.specs.Certified.{IsPredictedRace}
use Rattle.race_search.proofs.predictions.predict.Goals as goal

pub returns-clause-found : goal.returns-clause-found
returns-clause-found g c =
    All-permutation (IsPredictedRace c.args.recorded.now) c.in_ok-found.found.items c.sort_by_key.new.self.items c.sort_by_key.ensures.permutation
    c.in_ok-found.ensures.found
