use Rattle.std.proofs.Common.{◌≡◌, ◌+◌, ◌∷◌, map, take}
use Rattle.arrayvec.specs.ArrayVec.{array_vec_len}
use Rattle.race_records.specs.declared.{kind.Kind.Kind, operands.OperandKind.OperandKind}
use Rattle.race_text.specs.declared.form.Field.{Field}
use Rattle.race_explain.proofs.field.fields_of.Given as goal

abbrev pub invariant-loop-kind : goal.invariant-loop-kind
invariant-loop-kind l =
    (l.fields.items ≡ Field.Operand (OperandKind.Object Kind.Goroutine) ∷ map Field.Operand (take l.kind-index l.kinds)) × (array_vec_len l.fields ≡ 1 + l.kind-index)
