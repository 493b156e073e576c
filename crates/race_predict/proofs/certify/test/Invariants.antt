-- The events before the index are a run.
use Rattle.std.proofs.Common.{take}
use Rattle.race_predict.specs.Attempts.{IsAttempt}
use Rattle.race_predict.proofs.certify.test.Given as goal

abbrev pub invariant-loop-k : goal.invariant-loop-k
invariant-loop-k g l = record {
  attempt : IsAttempt l.recorded (take l.k l.order) l.attempt;
}
