-- The goroutine that the words behind `begin` name.
use Rattle.std.proofs.Common.{◌≡◌, ◌==◌, List, [], ◌∷◌, ℕ, length, Option, Some, None, true, false, true≢false}
use Rattle.std.proofs.{Common.{option_map, option_and_then, refl, arith}, lemmas.Bool.Decides.nat_tests}
use Rattle.std.specs.Result.{result_ok}
use Rattle.race_records.specs.declared.{kind.Kind.Kind, operands.{Operand.Operand, OperandKind.OperandKind}}
use Rattle.race_records.specs.Declarations.{Declaration}
use Rattle.race_text.specs.{Reading.{ReadOperand, first_operand, with_rest, goroutine_of}, Meaning.operand_in}
use Rattle.race_script.specs.Reading.{begun_in}

-- words that are not one name no goroutine
pub not_one : (ds : List Declaration) (words : List (List ℕ)) → (length words == 1) ≡ false → None ≡ begun_in ds words
not_one ds [] one = refl
not_one ds (w ∷ []) one = absurd (true≢false one)
not_one ds (w ∷ x ∷ words) one = refl

-- one names the goroutine of its part
of_operand : (words : List (List ℕ)) (operand : Option Operand)
    → option_and_then goroutine_of operand ≡ option_and_then (λ (first : ReadOperand). goroutine_of first.0) (option_map (with_rest words) operand)
of_operand words None = refl
of_operand words (Some operand) = refl

pub one_named : (ds : List Declaration) (words : List (List ℕ)) → (length words == 1) ≡ true
    → begun_in ds words ≡ option_and_then (λ (first : ReadOperand). goroutine_of first.0) (first_operand ds (OperandKind.Object Kind.Goroutine) words)
one_named ds [] one = refl
one_named ds (w ∷ []) one = of_operand [] (result_ok (operand_in ds (OperandKind.Object Kind.Goroutine) w))
one_named ds (w ∷ x ∷ words) one = absurd (grind (arith, nat_tests, one) steps 100000)
