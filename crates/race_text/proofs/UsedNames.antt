-- What a used name stands for in its place: an object that is wanted there.
use Rattle.std.proofs.Common.{◌≡◌, ℕ, Bool, true, false, true≢false, not, if◌then◌else◌, List, [], unwrap_or, Some}
use Rattle.std.proofs.Common.{ok_or, Ok, Err, refl, sym, ap, subst, ◌∙◌}
use Rattle.race_records.specs.{declared.{kind.{Kind.Kind, Named.Named}, operands.OperandKind.OperandKind}, Name.is_name}
use Rattle.race_records.specs.Declarations.{Declaration, DeclsState, IsWellFormed, IsDeclared, find_name, is_named}
use Rattle.race_records.specs.Declarations.{name_of}
use Rattle.race_text.specs.{declared.cause.TextCause.TextCause, Form.is_wanted, Least.then_says}
use Rattle.race_text.{specs.Meaning.{as_wanted, named_in}, proofs.CauseLemmas.{ok-err, same_Ok, then_is, ok_or_is}}
use Rattle.race_text.proofs.{FoundLemmas.{found_is_name, found_is_declared, name_of_found}, NamesAgain.name_again}

module _ (ds : List Declaration) where
  -- what holds of a used name
  pub record IsUsed (kind : OperandKind) (w : List ℕ) (named : Named) : Type 0 where
    pub text : w ≡ unwrap_or (name_of ds named) []
    pub form : is_name w ≡ true
    pub declared : IsDeclared ds named
    pub wanted : is_wanted ds kind named ≡ true

  pub is_used : (kind : OperandKind) (w : List ℕ) (named : Named) → named_in ds kind w ≡ Ok named → IsUsed kind w named
  is_used kind w named h = by (is_name w) refl h
    where
      found : is_name w ≡ true → (what : Named) → find_name ds w ≡ Some what → (b : Bool) → is_wanted ds kind what ≡ b
          → (if b then Ok what else Err TextCause.WrongKind) ≡ Ok named → IsUsed kind w named
      found form what is true wanted h = subst (IsUsed kind w) (same_Ok what named h) (record {
        text = ap (λ o. unwrap_or o []) (sym (name_of_found ds w what is));
        form = form;
        declared = found_is_declared ds w what is;
        wanted = wanted;
      })
      found form what is false wanted h = absurd (ok-err named TextCause.WrongKind (sym h))

      by : (b : Bool) → is_name w ≡ b
          → (if not b then Err TextCause.BadName else then_says (as_wanted ds kind) (ok_or (find_name ds w) TextCause.Unknown)) ≡ Ok named
          → IsUsed kind w named
      by true form h =
          let a = then_is (as_wanted ds kind) (ok_or (find_name ds w) TextCause.Unknown) named h in
          found form a.0 (ok_or_is (find_name ds w) TextCause.Unknown a.0 a.1) (is_wanted ds kind a.0) refl a.2
      by false form h = absurd (ok-err named TextCause.BadName (sym h))

  -- an rwmutex is a lock
  pub rwmutex_is_lock : (named : Named) → is_wanted ds OperandKind.RwMutex named ≡ true → is_named Kind.Lock named ≡ true
  rwmutex_is_lock (Named.Lock l) h = refl
  rwmutex_is_lock _ h = absurd (true≢false (sym h))

-- an object that is found is what the word names, where it is wanted there
pub named_by_found : (decls : DeclsState) (kind : OperandKind) (w : List ℕ) (named : Named) → IsWellFormed decls
    → find_name decls.declarations w ≡ Some named → is_wanted decls.declarations kind named ≡ true
    → named_in decls.declarations kind w ≡ Ok named
named_by_found decls kind w named holds found wanted =
    (λ i. if not (found_is_name decls w named holds found i) then Err TextCause.BadName
    else then_says (as_wanted decls.declarations kind) (ok_or (found i) TextCause.Unknown))
    ∙ ap (λ b. if b then Ok named else Err TextCause.WrongKind) wanted

-- the name by which an object is printed stands for it
pub used_again : (decls : DeclsState) → IsWellFormed decls → (kind : OperandKind) (named : Named) → is_wanted decls.declarations kind named ≡ true
    → IsDeclared decls.declarations named
    → (named_in decls.declarations kind (unwrap_or (name_of decls.declarations named) []) ≡ Ok named)
    × (is_name (unwrap_or (name_of decls.declarations named) []) ≡ true)
used_again decls holds kind named is less =
    let name = unwrap_or (name_of decls.declarations named) [] in
    let found = name_again decls holds named less in (
      named_by_found decls kind name named holds found is,
      found_is_name decls name named holds found,
    )
