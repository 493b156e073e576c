-- What was found so far is predicted.
use Rattle.std.proofs.Common.{◌≤◌, length, All}
use Rattle.race_predict.specs.{Certified.IsPredictedRace}
use Rattle.race_search.proofs.predictions.races_of.Given as goal

abbrev pub invariant-loop-candidate : goal.invariant-loop-candidate
invariant-loop-candidate g l = record {
  found : All (IsPredictedRace l.recorded) l.found.items;
  most : length l.found.items ≤ l.most;
}
