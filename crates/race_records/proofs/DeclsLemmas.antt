-- What the tables of a `Decls` say of its declarations.
use Rattle.std.proofs.Common.{◌≡◌, subst, ◌≢◌, All, Bool, true, get_or, ℕ, zero, suc, ◌<◌, false, if◌then◌else◌, List}
use Rattle.std.proofs.Common.{[], ◌∷◌, length, take, position, slice_get, Option, Some, None, option_map, refl, sym, ap}
use Rattle.std.proofs.{Common.{◌∙◌, arith}, lemmas.List.{get_or-map, length-map, Elements.All-get_or}}
use Rattle.std.proofs.lemmas.{List.Quantifiers.position-Some, Slice.Eq.bytes_eq-Decides}
use Rattle.std.proofs.lemmas.Option.{slice_get-map, slice_get-get_or, none-some}
use Rattle.std.specs.{Option.{option_map_or, option_and_then}, Str.bytes_eq}
use Rattle.race_records.specs.declared.{kind.{Kind.Kind, Object.Object, Named.Named}, names.Slot.Slot}
use Rattle.race_records.specs.Declarations.{Declaration, count_of, declared_at, find_name, kind_of, named, of_kind}
use Rattle.race_records.specs.{Name.main, DeclsHold.AreNumbered, Rows.{declaration_of, declarations_of}, Tables.Row}
use Rattle.race_records.{specs.Tables.{row, IndexesState, indexes_of, slot_named}, proofs.TextLemmas.position-map}

option_map-option_map : {A B C : Type 0} (f : A → B) (g : B → C) (o : Option A) → option_map g (option_map f o) ≡ option_map (λ x. g (f x)) o
option_map-option_map f g None = refl
option_map-option_map f g (Some x) = refl

-- an element of which something is told stands in the list
pub within_by_map : {A B : Type 0} (f : A → B) (xs : List A) (i : ℕ) (y : B) → option_map f (slice_get xs i) ≡ Some y → i < length xs
within_by_map f [] i y h = absurd (none-some _ h)
within_by_map f (x ∷ xs) zero y h = omega arith
within_by_map f (x ∷ xs) (suc i) y h = let n = within_by_map f xs i y h in omega arith

-- the index of a name among the rows is its index among the declarations
pub position-names : (rows : List Row) (name : List ℕ)
    → position (λ (r : Row). bytes_eq name r.name) rows ≡ position (λ (d : Declaration). bytes_eq name d.name) (declarations_of rows)
position-names rows name = sym (position-map declaration_of (λ (d : Declaration). bytes_eq name d.name) rows)

-- what a slot's object is named
abbrev pub slot_stands : Slot → Named
slot_stands slot = named slot.object slot.number

-- what is found by a name is what its row's slot says
module _ (rows : List Row) (indexes : IndexesState) (numbered : AreNumbered rows indexes) (name : List ℕ) where
  abbrev declared : ℕ → Declaration → Named
  declared i d = named d.object (count_of (kind_of d.object) (take i (declarations_of rows)))

  stands_at : (i : ℕ) (o : Option Row) → slice_get rows i ≡ o
      → option_map (declared i) (option_map declaration_of o) ≡ option_map slot_stands (option_map (λ (r : Row). r.slot) o)
  stands_at i None at = refl
  stands_at i (Some r) at = λ j. Some (named r.slot.object (sym (numbered.numbers i r at) j))

  stands : (o : Option ℕ)
      → option_and_then (declared_at (declarations_of rows)) o
      ≡ option_map slot_stands (option_and_then (λ i. option_map (λ (r : Row). r.slot) (slice_get rows i)) o)
  stands None = refl
  stands (Some i) = ap (option_map (declared i)) (slice_get-map declaration_of rows i) ∙ stands_at i (slice_get rows i) refl

  find_name-slot : bytes_eq name main ≡ false → find_name (declarations_of rows) name ≡ option_map slot_stands (slot_named name rows)
  find_name-slot other =
      let ds = declarations_of rows in
      (λ j. if other j then Some (Named.Goroutine 0) else option_and_then (declared_at ds) (position (λ (d : Declaration). bytes_eq name d.name) ds))
      ∙ ap (option_and_then (declared_at ds)) (sym (position-names rows name)) ∙ stands (position (λ (r : Row). bytes_eq name r.name) rows)

  pub find_name-found : (ds : List Declaration) (found : Option Slot) → declarations_of rows ≡ ds → bytes_eq name main ≡ false → found ≡ slot_named name rows
      → find_name ds name ≡ option_map slot_stands found
  find_name-found ds found view other is = (λ j. find_name (sym view j) name) ∙ find_name-slot other ∙ ap (option_map slot_stands) (sym is)

not_main : (rows : List Row) → All (λ d. d.name ≢ main) (declarations_of rows) → All (λ (r : Row). r.name ≢ main) rows
not_main rows others k r within =
    subst (λ (d : Declaration). d.name ≢ main) (get_or-map declaration_of rows k r (declaration_of r) within)
    (others k (declaration_of r) (omega (arith, within, length-map rows declaration_of)))

-- a name that stands in a row isn't main's
pub named_is_not_main : (rows : List Row) (name : List ℕ) (slot : Slot) → slot_named name rows ≡ Some slot
    → All (λ d. d.name ≢ main) (declarations_of rows) → bytes_eq name main ≡ false
named_is_not_main rows name slot is others = by (position (λ (r : Row). bytes_eq name r.name) rows) refl is
  where
    differs : (b : Bool) → bytes_eq name main ≡ b → name ≢ main → bytes_eq name main ≡ false
    differs true is other = absurd (other ((bytes_eq-Decides name main).0 is))
    differs false is other = is

    by : (o : Option ℕ) → position (λ (r : Row). bytes_eq name r.name) rows ≡ o
        → option_and_then (λ i. option_map (λ (r : Row). r.slot) (slice_get rows i)) o ≡ Some slot → bytes_eq name main ≡ false
    by None none h = absurd (none-some slot h)
    by (Some i) found h =
        let at = position-Some (λ (r : Row). bytes_eq name r.name) rows i (row name slot) found in
        let same = (bytes_eq-Decides name (get_or rows i (row name slot)).name).0 at.1 in
        let other = All-get_or (λ (r : Row). r.name ≢ main) rows i (row name slot) at.0 (not_main rows others) in
        differs (bytes_eq name main) refl (λ main_is. other (sym same ∙ main_is))

module _ (rows : List Row) (indexes : IndexesState) (numbered : AreNumbered rows indexes) (kind : Kind) (n i : ℕ)
    (at : slice_get (indexes_of kind indexes) n ≡ Some i) where
  -- the row that the nth index of a kind leads to is the nth declaration of the kind
  declaration-indexed : option_map declaration_of (slice_get rows i) ≡ slice_get (of_kind kind (declarations_of rows)) n
  declaration-indexed = sym (slice_get-map declaration_of rows i) ∙ (numbered.indexed kind).to n i at

  -- so it has its name
  pub name-indexed : option_map (λ (r : Row). r.name) (slice_get rows i)
      ≡ option_map (λ (d : Declaration). d.name) (slice_get (of_kind kind (declarations_of rows)) n)
  name-indexed =
      sym (option_map-option_map declaration_of (λ (d : Declaration). d.name) (slice_get rows i))
      ∙ ap (option_map (λ (d : Declaration). d.name)) declaration-indexed

  -- and what is told of its object holds of that declaration's
  pub object-indexed : {X : Type 0} (of : Object → X) (none : X) (slot : Slot) → option_map (λ (r : Row). r.slot) (slice_get rows i) ≡ Some slot
      → of slot.object ≡ option_map_or (λ (d : Declaration). of d.object) (slice_get (of_kind kind (declarations_of rows)) n) none
  object-indexed {X} of none slot is = by (slice_get rows i) is
      ∙ ap (λ (o : Option Declaration). option_map_or (λ (d : Declaration). of d.object) o none) declaration-indexed
    where
      by : (r : Option Row) → option_map (λ (r : Row). r.slot) r ≡ Some slot
          → of slot.object ≡ option_map_or (λ (d : Declaration). of d.object) (option_map declaration_of r) none
      by None is = cc
      by (Some row) is = ap (λ (s : Option Slot). option_map_or (λ (s : Slot). of s.object) s none) (sym is)

  -- and such a row there is
  pub index_within : n < length (of_kind kind (declarations_of rows)) → i < length rows
  index_within within = by (of_kind kind (declarations_of rows)) within (name-indexed)
    where
      by : (ds : List Declaration) → n < length ds
          → option_map (λ (r : Row). r.name) (slice_get rows i) ≡ option_map (λ (d : Declaration). d.name) (slice_get ds n) → i < length rows
      by [] h e = absurd (omega arith)
      by (d ∷ ds) h e = within_by_map (λ (r : Row). r.name) rows i _ (e ∙ ap (option_map (λ (x : Declaration). x.name)) (slice_get-get_or (d ∷ ds) n d h))
