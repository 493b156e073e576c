-- The table of places: a known place is never refused, and a new one keeps the table well formed.
use Rattle.std.proofs.Common.{◌≡◌, ◌≢◌, ℕ, ◌<◌, Bool, true, false, not, nat_le, List, [], ◌∷◌, ◌++◌, length, get_or}
use Rattle.std.proofs.Common.{Option, Some, None, IsTrue, if◌then◌else◌, refl, sym, subst, ◌∙◌, arith, All, true≢false}
use Rattle.std.proofs.lemmas.{Bool.Decides.nat_tests, List.{length-append, Elements.All-push}}
use Rattle.std.proofs.lemmas.List.{Folds.{Any-from_list_any, list_any_at}, Quantifiers.all_pairs_push}
use Rattle.std.{proofs.lemmas.{Option.none-some, Slice.Eq.bytes_eq-Decides}, specs.Str.bytes_eq}
use Rattle.race_records.specs.declared.declarations.DeclFault.{DeclFault, TheVariants.{BadName, TooMany}}
use Rattle.race_records.specs.{declared.declarations.TheConstants.MAX_PLACES, Name.is_place, Declarations.DeclsState}
use Rattle.race_records.specs.Declarations.{IsWellFormed, is_known, place_fault, with_place}

-- a known place has a place's form
known_is_place : (places : List (List ℕ)) (word : List ℕ) → All (λ (p : List ℕ). IsTrue (is_place p)) places → is_known places word ≡ true
    → is_place word ≡ true
known_is_place places word all known =
    let at = Any-from_list_any (bytes_eq word) places known in
    let is_same : word ≡ at.1 = (bytes_eq-Decides word at.1).0 at.4 in
    subst (λ (p : List ℕ). is_place p ≡ true) (at.3 ∙ sym is_same) (all at.0 at.1 at.2)

-- so nothing refuses it
pub known_is_allowed : (decls : DeclsState) (word : List ℕ) → IsWellFormed decls → is_known decls.places word ≡ true → place_fault decls.places word ≡ None
unfolding place_fault
known_is_allowed decls word holds known =
    by (is_place word) (is_known decls.places word) (known_is_place decls.places word holds.places known) known
  where
    by : (b c : Bool) → b ≡ true → c ≡ true
        → ◌≡◌ {A = Option DeclFault} (if not b then Some BadName else
        (if c then None else (if nat_le MAX_PLACES (length decls.places) then Some TooMany else None))) None
    by true true e f = refl
    by false _ e f = absurd (true≢false (sym e))
    by true false e f = absurd (true≢false (sym f))

-- what no fault means for a new place
pub record IsAllowedPlace (places : List (List ℕ)) (word : List ℕ) : Type 0 where
  pub form : IsTrue (is_place word)
  pub room : length places < MAX_PLACES

pub allowed_from_no_place_fault : (places : List (List ℕ)) (word : List ℕ) → is_known places word ≡ false → place_fault places word ≡ None
    → IsAllowedPlace places word
unfolding place_fault
allowed_from_no_place_fault places word new h = by (is_place word) refl (is_known places word) new (nat_le MAX_PLACES (length places)) refl h
  where
    by : (b : Bool) → is_place word ≡ b → (c : Bool) → c ≡ false → (full : Bool) → nat_le MAX_PLACES (length places) ≡ full
        → ◌≡◌ {A = Option DeclFault} (if not b then Some BadName else (if c then None else (if full then Some TooMany else None))) None
        → IsAllowedPlace places word
    by false _ _ _ _ _ h = absurd (none-some _ (sym h))
    by true _ true e _ _ h = absurd (true≢false e)
    by true _ false _ true _ h = absurd (none-some _ (sym h))
    by true form false _ false room h = record { form = form; room = grind (arith, nat_tests) }

-- the table with a new place
pub place_well_formed : (decls : DeclsState) (word : List ℕ) → IsWellFormed decls → is_known decls.places word ≡ false → IsAllowedPlace decls.places word
    → IsWellFormed (record { version = decls.version; declarations = decls.declarations; places = decls.places ++ word ∷ [] })
place_well_formed decls word holds new allowed = record {
  names = holds.names;
  not_main = holds.not_main;
  distinct = holds.distinct;
  limited = holds.limited;
  capacities = holds.capacities;
  places = All-push (λ (p : List ℕ). IsTrue (is_place p)) decls.places word holds.places allowed.form;
  places_distinct = all_pairs_push (λ (p q : List ℕ). p ≢ q) decls.places word holds.places_distinct
      (λ k d within same. true≢false
      (sym (list_any_at (bytes_eq word) decls.places k d within ((bytes_eq-Decides word (get_or decls.places k d)).1 (sym same))) ∙ new));
  places_limited = let room = allowed.room in omega (arith, room, length-append decls.places (word ∷ []));
}

-- the table with a place that nothing refuses, new or known
pub with_place_well_formed : (decls : DeclsState) (word : List ℕ) → IsWellFormed decls → place_fault decls.places word ≡ None
    → IsWellFormed (with_place decls word)
with_place_well_formed decls word holds none = by (is_known decls.places word) refl
  where
    by : (b : Bool) → is_known decls.places word ≡ b
        → IsWellFormed (record { version = decls.version; declarations = decls.declarations; places = if b then decls.places else decls.places ++ word ∷ [] })
    by true e = holds
    by false e = place_well_formed decls word holds e (allowed_from_no_place_fault decls.places word e none)
