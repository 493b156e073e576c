-- The law of the ends, which a function of src/laws.rt that does nothing has as its contract.
use Rattle.std.specs.Prelude.{◌≡◌, [], ◌∷◌, Some, None}
use Rattle.race_records.specs.declared.event.{Cause.TheVariants.CloseNil, Op.TheVariants.{Exit, Write, Fault}}
use Rattle.race_model.specs.Examples.{does}
use Rattle.race_hub.specs.{declared.ending.End.End, Hub.stop_by}

-- of several ends that hold the first is told: main's exit, a failure, a bad request, the limit
pub record EndsComeInOrder : Type 0 where
  pub exit_at_limit : stop_by (does 0 Exit ∷ []) 1 (Some 1) ≡ Some End.Main
  pub failure_at_limit : stop_by (does 0 (Fault CloseNil) ∷ []) 1 (Some 1) ≡ Some End.Fault
  pub bad_at_limit : stop_by (does 0 (Write 0 1) ∷ []) 1 (Some 1) ≡ Some (End.Bad 1)
  pub limit : stop_by (does 0 (Write 0 1) ∷ []) 1 None ≡ Some End.Limit
  pub below_limit : stop_by (does 0 (Write 0 1) ∷ []) 2 None ≡ None
  pub another_exit : stop_by (does 1 Exit ∷ []) 2 None ≡ None
