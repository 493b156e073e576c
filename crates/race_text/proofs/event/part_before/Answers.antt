use Rattle.std.proofs.Common.{◌≡◌, ℕ, ◌⊎◌, inl, inr, List, Result, Ok, Err, Some, take, sym, ap, ◌∙◌}
use Rattle.std.specs.{Option.option_map, Result.result_ok}
use Rattle.race_records.specs.declared.{kind.{Kind.Kind, Named.Named}, operands.{Operand.Operand, OperandKind.OperandKind}}
use Rattle.race_records.specs.Declarations.{Declaration}
use Rattle.race_text.specs.{declared.cause.TextCause.TextCause, Least.says_by, Meaning.{named_in, operand_in}}
use Rattle.race_text.proofs.event.part_before.Goals as goal

-- what is said of what a word says
said_ok : (r : Result Named TextCause) (named : Named) → Some named ≡ result_ok r → Some (Operand.Object named) ≡ result_ok (says_by Operand.Object r)
said_ok (Ok x) named is = ap (option_map Operand.Object) is
said_ok (Err cause) named is = ap (option_map Operand.Object) is

-- a name says an object, of whichever kind
object_said : (ds : List Declaration) (kind : OperandKind) (w : List ℕ) (named : Named)
    → ((k : Kind) × (kind ≡ OperandKind.Object k)) ⊎ (kind ≡ OperandKind.RwMutex)
    → Some named ≡ result_ok (named_in ds kind w) → Some (Operand.Object named) ≡ result_ok (operand_in ds kind w)
object_said ds kind w named (inl (k, is)) found =
    said_ok (named_in ds (OperandKind.Object k) w) named (found ∙ ap (λ k. result_ok (named_in ds k w)) is) ∙ sym (ap (λ k. result_ok (operand_in ds k w)) is)
object_said ds kind w named (inr is) found =
    said_ok (named_in ds OperandKind.RwMutex w) named (found ∙ ap (λ k. result_ok (named_in ds k w)) is) ∙ sym (ap (λ k. result_ok (operand_in ds k w)) is)

pub returns-in-Some : goal.returns-in-Some
returns-in-Some g c =
    object_said c.args.decls.now.declarations c.args.kind (take c.args.len c.args.bytes.now) c.in-Some.named c.in-Object.is c.in-Some.ensures
