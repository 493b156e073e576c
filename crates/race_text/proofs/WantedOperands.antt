-- The operands of an operation are what is wanted just where its lock is an rwmutex that has to be one.
use Rattle.std.proofs.Common.{◌≡◌, ◌&&◌, Bool, true, false, List, [], ◌∷◌, refl}
use Rattle.race_records.specs.declared.{event.Op.{Op, TheVariants.{RLock, RUnlock, TryRLock, Fault}}, operands.Operand.Operand}
use Rattle.race_records.specs.{declared.operands.OperandKind.OperandKind, Declarations.{Declaration, is_rw}, Events.lock_fits}
use Rattle.race_records.specs.Operands.{says, operand_kinds}
use Rattle.race_text.specs.Form.{is_wanted}

-- an operand is what is wanted in its place
abbrev pub operand_is_wanted : List Declaration → OperandKind → Operand → Bool
operand_is_wanted ds (OperandKind.Object kind) (Operand.Object named) = is_wanted ds (OperandKind.Object kind) named
operand_is_wanted ds OperandKind.RwMutex (Operand.Object named) = is_wanted ds OperandKind.RwMutex named
operand_is_wanted ds OperandKind.Value (Operand.Value v) = true
operand_is_wanted ds OperandKind.Cases (Operand.Cases cases) = true
operand_is_wanted ds OperandKind.Cause (Operand.Cause cause) = lock_fits ds (Fault cause)
operand_is_wanted ds _ operand = false

-- so is each operand
abbrev pub are_wanted : List Declaration → List OperandKind → List Operand → Bool
are_wanted ds [] [] = true
are_wanted ds (kind ∷ kinds) (operand ∷ operands) = operand_is_wanted ds kind operand && are_wanted ds kinds operands
are_wanted ds _ _ = false

and_true : (b : Bool) → (b && true) ≡ b
and_true true = refl
and_true false = refl

pub wanted_by_op : (ds : List Declaration) (op : Op) → are_wanted ds (operand_kinds (says op).0) (says op).1 ≡ lock_fits ds op
wanted_by_op ds (RLock l) = and_true (is_rw ds l)
wanted_by_op ds (RUnlock l) = and_true (is_rw ds l)
wanted_by_op ds (TryRLock l) = and_true (is_rw ds l)
wanted_by_op ds (Fault cause) = and_true (lock_fits ds (Fault cause))
wanted_by_op ds _ = refl
