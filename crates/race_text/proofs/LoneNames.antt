-- A keyword with a name alone: what refuses the declaration is the cause of its line.
use Rattle.std.proofs.Common.{◌≡◌, ◌∙◌, ℕ, Bool, true, false, not, if◌then◌else◌, nat_le, List, [], ◌∷◌, Option, Some, None, is_some, option_map}
use Rattle.std.proofs.Common.{Result, Ok, Err, IfErr, refl, sym, ap, subst, true≢false}
use Rattle.std.proofs.lemmas.{Option.{none-some, same_Some}, Result.IfErr-at_err}
use Rattle.std.specs.Result.{IsOkUnless, is_ok}
use Rattle.race_records.specs.{Refusal.{Refuses, AllowsUnless}, declared.declarations.DeclFault.DeclFault}
use Rattle.race_records.specs.declared.{kind.{Kind.Kind, Object.Object}, decl_keywords.DeclKeyword.DeclKeyword}
use Rattle.race_records.specs.{Name.is_name, Declarations.{Declaration, decl_fault, find_name, kind_of, count_of, limit_of, is_too_wide}}
use Rattle.race_records.{specs.DeclKeywords.{number_limit, kind_of_decl_keyword, object_by}, proofs.DeclKeywordLaws.{IsWanted, object_is_there}}
use Rattle.race_text.specs.{declared.cause.TextCause.TextCause, Fault.{field_cause, or_else}, Declaring.{cause_of, decl_keyword_cause}}
use Rattle.race_text.proofs.DeclarationLemmas.{fault_by, kind_made, named_cause}

-- it makes an object whose capacity isn't too wide
pub lone_object : (keyword : DeclKeyword) → number_limit keyword ≡ None → (object : Object) × (object_by keyword None ≡ Some object) × (is_too_wide object ≡ false)
lone_object keyword alone = object_is_there keyword None (subst (λ limit. IsWanted limit None) (sym alone) tt)

lone_narrow : (keyword : DeclKeyword) (object : Object) → number_limit keyword ≡ None → object_by keyword None ≡ Some object → is_too_wide object ≡ false
lone_narrow keyword object alone made =
    let one = lone_object keyword alone in
    ap is_too_wide (same_Some object one.0 (sym made ∙ one.1)) ∙ one.2

same_order : (named taken full wide : Bool) → wide ≡ false
    → or_else (if not named then Some TextCause.BadName else (if taken then Some TextCause.Taken else None)) (if full then Some TextCause.TooMany else None)
    ≡ option_map cause_of (fault_by named taken full wide)
same_order false taken full wide narrow = refl
same_order true true full wide narrow = refl
same_order true false true wide narrow = refl
same_order true false false false narrow = refl
same_order true false false true narrow = absurd (true≢false narrow)

pub lone_cause : (ds : List Declaration) (keyword : DeclKeyword) (name : List ℕ) (object : Object) → number_limit keyword ≡ None
    → object_by keyword None ≡ Some object → decl_keyword_cause ds keyword (name ∷ []) ≡ option_map cause_of (decl_fault ds object name)
unfolding decl_fault field_cause
lone_cause ds keyword name object alone made =
    ap (λ limit. named_cause ds (kind_of_decl_keyword keyword) limit (name ∷ [])) alone
    ∙ ap (λ kind. named_cause ds kind None (name ∷ [])) (kind_made keyword None object made)
    ∙ same_order (is_name name) (is_some (find_name ds name)) (nat_le (limit_of (kind_of object)) (count_of (kind_of object) ds)) (is_too_wide object)
    (lone_narrow keyword object alone made)

-- so what the table answers is what is owed of the line
module _ {T : Type 0} (fault : Option DeclFault) (cause : Option TextCause) (answer : Result T DeclFault) (same : cause ≡ option_map cause_of fault) where
  pub lone_ok : (x : T) → answer ≡ Ok x → Refuses fault answer → {U : Type 0} (y : U) → Refuses cause (Ok y)
  lone_ok x is refused y f told = by fault (sym same ∙ told) refused
    where
      by : (o : Option DeclFault) → option_map cause_of o ≡ Some f → Refuses o answer → Ok y ≡ Err f
      by None e r = absurd (none-some f e)
      by (Some d) e r = absurd (true≢false (ap is_ok (sym is ∙ r d refl)))

  pub lone_refused : (d : DeclFault) → answer ≡ Err d → Refuses fault answer → (f : TextCause) → cause ≡ Some f → cause_of d ≡ f
  lone_refused d is refused f told = by fault (sym same ∙ told) refused
    where
      at : (e : DeclFault) → answer ≡ Err e → e ≡ d
      at e r = IfErr-at_err (λ x. e ≡ x) {r = answer} {y = d} is (subst (λ (a : Result T DeclFault). IfErr a (λ x. e ≡ x)) (sym r) refl)

      by : (o : Option DeclFault) → option_map cause_of o ≡ Some f → Refuses o answer → cause_of d ≡ f
      by None e r = absurd (none-some f e)
      by (Some one) e r = ap cause_of (sym (at one (r one refl))) ∙ same_Some (cause_of one) f e

  pub lone_allowed : (d : DeclFault) → answer ≡ Err d → AllowsUnless fault answer DeclFault.OutOfMemory → cause ≡ None → cause_of d ≡ TextCause.OutOfMemory
  lone_allowed d is allowed none = by fault (sym same ∙ none) allowed
    where
      by : (o : Option DeclFault) → option_map cause_of o ≡ None → AllowsUnless o answer DeclFault.OutOfMemory → cause_of d ≡ TextCause.OutOfMemory
      by None e a = ap cause_of (IfErr-at_err (λ x. x ≡ DeclFault.OutOfMemory) {r = answer} {y = d} is (a refl))
      by (Some told) e a = absurd (none-some (cause_of told) (sym e))
