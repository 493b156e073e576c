use Rattle.std.proofs.Common.{◌≡◌, take, map}
use Rattle.race_text.specs.declared.form.Field.{Field}
use Rattle.race_script.proofs.form.ask_fields.Given as goal

abbrev pub invariant-loop-kind : goal.invariant-loop-kind
invariant-loop-kind l = l.fields.items ≡ map Field.Operand (take l.kind-index l.kinds)
