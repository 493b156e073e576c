-- A word with a byte that can't be seen says nothing.
use Rattle.std.proofs.Common.{◌≡◌, ℕ, ◌-◌, ◌^◌, Bool, true, false, not, if◌then◌else◌, List, [], ◌∷◌, Option, Some}
use Rattle.std.proofs.Common.{None, ok_or, Result, Ok, Err, refl, sym, ap, ◌∙◌, arith, true≢false}
use Rattle.std.specs.{List.list_all, Option.option_map, Result.result_ok}
use Rattle.race_records.specs.declared.{cases.Case.Case, event.Cause.Cause, operands.{Operand.Operand, OperandKind.OperandKind}}
use Rattle.race_records.specs.{declared.version.Version.Version, Name.{is_name, is_place, is_place_byte}}
use Rattle.race_records.specs.Declarations.{Declaration, DeclsState, IsWellFormed, find_name}
use Rattle.race_text.specs.{declared.{cause.TextCause.TextCause, form.Word.Word}, Words.number}
use Rattle.race_text.specs.{Form.{word_in, first_word}, Least.{then_says, says_by}, Meaning.{as_wanted, named_in}}
use Rattle.race_text.specs.{Meaning.{cases_in, failure_in}, Reading.{with_rest, first_operand, first_place, event_by}}
use Rattle.race_text.{specs.Reading.event_in, proofs.CaseWords.{is_cases, cases_visible}}
use Rattle.race_text.proofs.FailureWords.{is_failure, failure_again}
use Rattle.race_text.proofs.{CleanLemmas.{place_is_visible, number_is_visible}, WordTable.{word_is_seen, word_of_table}}
use Rattle.race_text.proofs.WordLemmas.{name_is_visible}

is_false : (b seen : Bool) → (b ≡ true → seen ≡ true) → seen ≡ false → b ≡ false
is_false true seen h unseen = absurd (true≢false (sym (h refl) ∙ unseen))
is_false false seen h unseen = refl

unseen_name : (ds : List Declaration) (kind : OperandKind) (w : List ℕ) → list_all is_place_byte w ≡ false → named_in ds kind w ≡ Err TextCause.BadName
unseen_name ds kind w h =
    ap (λ b. if not b then Err TextCause.BadName else then_says (as_wanted ds kind) (ok_or (find_name ds w) TextCause.Unknown))
    (is_false (is_name w) (list_all is_place_byte w) (name_is_visible w) h)

pub unseen_operand : (decls : DeclsState) (kind : OperandKind) (ws : List (List ℕ)) → IsWellFormed decls → list_all is_place_byte (first_word ws) ≡ false
    → first_operand decls.declarations kind ws ≡ None
unseen_operand decls kind [] holds h = refl
unseen_operand decls (OperandKind.Object kind) (w ∷ ws) holds h =
    ap (λ r. option_map (with_rest ws) (result_ok (says_by Operand.Object r))) (unseen_name decls.declarations (OperandKind.Object kind) w h)
unseen_operand decls OperandKind.RwMutex (w ∷ ws) holds h =
    ap (λ r. option_map (with_rest ws) (result_ok (says_by Operand.Object r))) (unseen_name decls.declarations OperandKind.RwMutex w h)
unseen_operand decls OperandKind.Value (w ∷ ws) holds h = by (number (2 ^ 64 - 1) w) refl
  where
    by : (o : Option ℕ) → number (2 ^ 64 - 1) w ≡ o
        → option_map (with_rest ws) (result_ok (says_by Operand.Value (ok_or o TextCause.BadNumber))) ≡ None
    by None e = refl
    by (Some n) e = absurd (true≢false (sym (number_is_visible (2 ^ 64 - 1) w n (omega arith) e) ∙ h))
unseen_operand decls OperandKind.Cases (w ∷ ws) holds h = by (cases_in decls.declarations w) refl
  where
    by : (r : Result (List Case) TextCause) → cases_in decls.declarations w ≡ r → option_map (with_rest ws) (result_ok (says_by Operand.Cases r)) ≡ None
    by (Err cause) e = refl
    by (Ok cases) e =
        let is = is_cases decls.declarations w cases e in
        absurd (true≢false (sym (ap (list_all is_place_byte) is.text_is ∙ cases_visible decls holds cases is.fit) ∙ h))
unseen_operand decls OperandKind.Cause (w ∷ ws) holds h = by (failure_in decls.declarations w) refl
  where
    by : (r : Result Cause TextCause) → failure_in decls.declarations w ≡ r → option_map (with_rest ws) (result_ok (says_by Operand.Cause r)) ≡ None
    by (Err cause) e = refl
    by (Ok cause) e =
        let is = is_failure decls holds w cause e in
        absurd (true≢false (sym (ap (list_all is_place_byte) is.text ∙ (failure_again decls holds cause is.fits is.lock).1) ∙ h))

pub unseen_place : (ws : List (List ℕ)) → list_all is_place_byte (first_word ws) ≡ false → first_place ws ≡ None
unseen_place [] h = refl
unseen_place (w ∷ ws) h = ap (λ b. if b then Some (w, ws) else None) (is_false (is_place w) (list_all is_place_byte w) (place_is_visible w) h)

pub unseen_event : (version : Version) (ds : List Declaration) (ws : List (List ℕ)) → list_all is_place_byte (first_word ws) ≡ false
    → event_in version ds ws ≡ None
unseen_event version ds [] h = refl
unseen_event version ds (w ∷ ws) h = by (word_in version w) refl
  where
    by : (o : Option Word) → word_in version w ≡ o → event_by ds o ws ≡ None
    by None e = refl
    by (Some word) e = absurd (true≢false (sym (word_is_seen w word (word_of_table version w word e).0) ∙ h))
