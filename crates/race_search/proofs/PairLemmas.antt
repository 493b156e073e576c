-- A prediction ends with two events.
use Rattle.std.proofs.Common.{◌≤◌, length, IfSome, Option, Some, None, arith}
use Rattle.race_records.specs.Events.{TraceState}
use Rattle.race_predict.specs.{declared.prediction.Prediction.Prediction, Certified.IsPredicted}

pub has_pair_if : {A : Type 0} → (recorded : TraceState) (o : Option (Prediction A)) → IfSome o (IsPredicted recorded) → IfSome o (λ p. 2 ≤ length p.order.items)
has_pair_if recorded None is = tt
has_pair_if recorded (Some p) (other, is) = omega (arith, is.prediction.ends_with_race.last_two, is.made.as_many)
