-- What the word says that tells why a run failed.
use Rattle.std.proofs.Common.{◌≡◌, ℕ, Bool, true, false, true≢false, if◌then◌else◌, List, [], ◌∷◌, ◌++◌, map, codes}
use Rattle.std.proofs.Common.{unwrap_or, Option, Some, None, ok_or, Ok, refl, sym, ap, subst, ◌∙◌, arith}
use Rattle.std.proofs.lemmas.{Bool.Decides.nat_tests, Option.{none-some, same_Some}, Slice.Eq.bytes_eq-Decides}
use Rattle.std.specs.{List.list_all, Option.option_map_or, Str.bytes_eq}
use Rattle.race_records.specs.declared.event.Cause.{Cause, TheVariants.{SendClosed, CloseClosed, CloseNil, UnlockFree}}
use Rattle.race_records.specs.declared.{event.{Cause.TheVariants.RUnlockFree, Op.TheVariants.Fault}, kind.Named.Named}
use Rattle.race_records.specs.{declared.operands.Operand.Operand, Name.{is_name, is_place_byte}, Declarations.Declaration}
use Rattle.race_records.specs.Declarations.{DeclsState, IsWellFormed, IsDeclared, counts_of, name_of}
use Rattle.race_records.specs.{Events.lock_fits, Operands.{failed_at, named_is_in_range, operand_fits}}
use Rattle.race_text.specs.declared.{cause.TextCause.TextCause, select.{Attempt.Attempt, TheConstants.ATTEMPTS}}
use Rattle.race_text.specs.{Form.is_wanted, Select.{close_nil, behind, SpelledFailure, failure_by, failure_among}}
use Rattle.race_text.specs.{Select.{failure_spelled, kind_tried, cause_by}, Text.failure_text}
use Rattle.race_text.specs.{Least.{then_says, says_by}, Meaning.{named_in, spelled_failure_in, failure_in}}
use Rattle.race_text.proofs.{CaseWords.{behind_is, not_nil}, CauseLemmas.{same_Ok, then_is, with_is, ok_or_is}}
use Rattle.race_text.proofs.{UsedNames.{is_used, used_again}, WordLemmas.{both, name_is_visible}}

-- the front of the word
abbrev attempt_text : Attempt → List ℕ
attempt_text Attempt.Send = codes "send:"
attempt_text Attempt.Close = codes "close:"
attempt_text Attempt.Unlock = codes "unlock:"
attempt_text Attempt.RUnlock = codes "runlock:"

-- a word that is spelled so begins with it
spelled_in : (entries : List (List ℕ × Attempt)) (w : List ℕ) (failure : SpelledFailure) → failure_among entries w ≡ Some failure
    → list_all (λ (e : List ℕ × Attempt). bytes_eq e.0 (attempt_text e.1)) entries ≡ true → w ≡ attempt_text failure.0 ++ failure.1
spelled_in [] w failure h all = absurd (none-some failure h)
spelled_in (e ∷ es) w failure h all = by (behind e.0 w) refl h (λ rest. spelled_in es w failure rest (both (bytes_eq e.0 (attempt_text e.1)) _ all).1)
  where
    by : (o : Option (List ℕ)) → behind e.0 w ≡ o → failure_by e.1 o (failure_among es w) ≡ Some failure
        → (failure_among es w ≡ Some failure → w ≡ attempt_text failure.0 ++ failure.1) → w ≡ attempt_text failure.0 ++ failure.1
    by (Some name) is h others =
        behind_is e.0 w name is ∙ ap (λ front. front ++ name) ((bytes_eq-Decides e.0 (attempt_text e.1)).0 (both (bytes_eq e.0 (attempt_text e.1)) _ all).0)
        ∙ ap (λ (s : SpelledFailure). attempt_text s.0 ++ s.1) (same_Some (e.1, name) failure h)
    by None is h others = others h

spelled_is : (w : List ℕ) (failure : SpelledFailure) → failure_spelled w ≡ Some failure → w ≡ attempt_text failure.0 ++ failure.1
spelled_is w failure h = spelled_in (map (λ entry. (entry.0.now, entry.1)) ATTEMPTS) w failure h refl

-- and back
spelled_again : (attempt : Attempt) (name : List ℕ) → failure_spelled (attempt_text attempt ++ name) ≡ Some (attempt, name)
spelled_again Attempt.Send name = refl
spelled_again _ name = refl

not_close_nil : (attempt : Attempt) (name : List ℕ) → is_name name ≡ true → bytes_eq (attempt_text attempt ++ name) close_nil ≡ false
not_close_nil Attempt.Close name form = not_nil name form
not_close_nil _ name form = refl

attempt_visible : (attempt : Attempt) (name : List ℕ) → is_name name ≡ true → list_all is_place_byte (attempt_text attempt ++ name) ≡ true
attempt_visible Attempt.Send name form = name_is_visible name form
attempt_visible _ name form = name_is_visible name form

module _ (decls : DeclsState) (holds : IsWellFormed decls) where
  abbrev ds : List Declaration
  ds = decls.declarations

  -- what is printed of a failure of an attempt says it, and can be seen
  abbrev IsAgain : Cause → Type 0
  IsAgain cause = (failure_in ds (failure_text ds cause) ≡ Ok cause) × (list_all is_place_byte (failure_text ds cause) ≡ true)

  tried_again : (attempt : Attempt) (named : Named) → is_wanted ds (kind_tried attempt) named ≡ true → IsDeclared ds named
      → (failure_in ds (attempt_text attempt ++ unwrap_or (name_of ds named) []) ≡ Ok (cause_by attempt named))
      × (list_all is_place_byte (attempt_text attempt ++ unwrap_or (name_of ds named) []) ≡ true)
  tried_again attempt named is less =
      let name = unwrap_or (name_of ds named) [] in
      let again = used_again decls holds (kind_tried attempt) named is less in (
        (λ i. if not_close_nil attempt name again.1 i then Ok CloseNil
            else then_says (spelled_failure_in ds) (ok_or (spelled_again attempt name i) TextCause.BadName))
            ∙ ap (says_by (cause_by attempt)) again.0,
        attempt_visible attempt name again.1,
      )

  -- so does what is printed of any failure
  pub failure_again : (cause : Cause) → operand_fits ds (Operand.Cause cause) ≡ true → lock_fits ds (Fault cause) ≡ true → IsAgain cause
  failure_again (SendClosed c) fit lock = tried_again Attempt.Send (Named.Chan c) refl (grind (arith, nat_tests, fit))
  failure_again (CloseClosed c) fit lock = tried_again Attempt.Close (Named.Chan c) refl (grind (arith, nat_tests, fit))
  failure_again CloseNil fit lock = (refl, refl)
  failure_again (UnlockFree l) fit lock = tried_again Attempt.Unlock (Named.Lock l) refl (grind (arith, nat_tests, fit))
  failure_again (RUnlockFree l) fit lock = tried_again Attempt.RUnlock (Named.Lock l) lock (grind (arith, nat_tests, fit))

  -- what holds of a word that says a failure
  pub record IsFailure (w : List ℕ) (cause : Cause) : Type 0 where
    pub text : w ≡ failure_text ds cause
    pub fits : operand_fits ds (Operand.Cause cause) ≡ true
    pub lock : lock_fits ds (Fault cause) ≡ true

  -- of the cause of an attempt at what is wanted
  record IsTried (attempt : Attempt) (named : Named) : Type 0 where
    text : attempt_text attempt ++ unwrap_or (name_of ds named) [] ≡ failure_text ds (cause_by attempt named)
    at : failed_at (cause_by attempt named) ≡ Some named
    lock : lock_fits ds (Fault (cause_by attempt named)) ≡ true

  is_tried : (attempt : Attempt) (named : Named) → is_wanted ds (kind_tried attempt) named ≡ true → IsTried attempt named
  is_tried Attempt.Send (Named.Chan c) wanted = record { text = refl; at = refl; lock = refl }
  is_tried Attempt.Close (Named.Chan c) wanted = record { text = refl; at = refl; lock = refl }
  is_tried Attempt.Unlock (Named.Lock l) wanted = record { text = refl; at = refl; lock = refl }
  is_tried Attempt.RUnlock (Named.Lock l) wanted = record { text = refl; at = refl; lock = wanted }
  is_tried _ _ wanted = absurd (true≢false (sym wanted))

  pub is_failure : (w : List ℕ) (cause : Cause) → failure_in ds w ≡ Ok cause → IsFailure w cause
  is_failure w cause h = by (bytes_eq w close_nil) refl h
    where
      by : (b : Bool) → bytes_eq w close_nil ≡ b
          → (if b then Ok CloseNil else then_says (spelled_failure_in ds) (ok_or (failure_spelled w) TextCause.BadName)) ≡ Ok cause
          → IsFailure w cause
      by true e h = subst (IsFailure w) (same_Ok CloseNil cause h) (record {
        text = (bytes_eq-Decides w close_nil).0 e;
        fits = refl;
        lock = refl;
      })
      by false e h =
          let a = then_is (spelled_failure_in ds) (ok_or (failure_spelled w) TextCause.BadName) cause h in
          let attempt = a.0.0 in
          let read = with_is (cause_by attempt) (named_in ds (kind_tried attempt) a.0.1) cause a.2 in
          let used = is_used ds (kind_tried attempt) a.0.1 read.0 read.1 in
          let tried = is_tried attempt read.0 used.wanted in
          let less = used.declared in
          let in_range : named_is_in_range (counts_of ds) read.0 ≡ true = grind (arith, nat_tests, less) in
          subst (IsFailure w) read.2 (record {
            text = spelled_is w a.0 (ok_or_is (failure_spelled w) TextCause.BadName a.0 a.1) ∙ ap (λ name. attempt_text attempt ++ name) used.text ∙ tried.text;
            fits = ap (λ o. option_map_or (named_is_in_range (counts_of ds)) o true) tried.at ∙ in_range;
            lock = tried.lock;
          })
