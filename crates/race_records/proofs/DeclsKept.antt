-- The invariant of a `Decls`: with nothing declared, and after one more declaration.
use Rattle.std.proofs.Common.{◌≡◌, ◌≢◌, ℕ, ◌+◌, ◌<◌, ◌≤◌, Bool, true, false, cond, List, [], ◌∷◌, ◌++◌, length, take}
use Rattle.std.proofs.Common.{slice_get, Some, IsTrue, if◌then◌else◌, refl, sym, ap, subst, ◌∙◌, append-nil, inl, inr}
use Rattle.std.proofs.{Common.{arith, true≢false}, lemmas.List.{length-append, length-map, map-append, take-append-le}}
use Rattle.std.proofs.lemmas.List.{Elements.{All-push, filter-append}, Quantifiers.all_pairs_push}
use Rattle.std.proofs.{lemmas.Option.{none-some, slice_get_within}, Math.Seq.take-append_seam}
use Rattle.race_records.specs.declared.{kind.{Kind.Kind, Object.Object}, version.Version.Version}
use Rattle.race_records.specs.{declared.declarations.Decls.TheInside.Inside, Name.{main, is_name}}
use Rattle.race_records.specs.Declarations.{Declaration, DeclsState, IsWellFormed, with_declaration, is_of_kind}
use Rattle.race_records.specs.Declarations.{kind_of, of_kind, count_of, limit_of, first_number, is_too_wide}
use Rattle.race_records.specs.DeclsHold.{decls_state, Leads, AreNumbered, DeclsHold}
use Rattle.race_records.specs.{Rows.{declaration_of, declarations_of}, Tables.{Row, row, IndexesState, indexes_of}}
use Rattle.race_records.{specs.Tables.{no_indexes, with_index}, proofs.DeclFaultLemmas.{IsAllowed, differs_from_absent}}
use Rattle.race_records.proofs.ListLemmas.{slice_get-push_cases, Leads-same, Leads-other}

-- only the kind of the object itself fits it
kind_is : (kind : Kind) (object : Object) → is_of_kind kind object ≡ true → kind ≡ kind_of object
kind_is Kind.Goroutine Object.Goroutine h = refl
kind_is Kind.Var Object.Var h = refl
kind_is Kind.Chan (Object.Chan capacity) h = refl
kind_is Kind.Lock (Object.Lock rw) h = refl
kind_is Kind.Once Object.Once h = refl
kind_is _ _ h = absurd (true≢false (sym h))

-- one more index of a kind
indexes_of-with_index : (kind : Kind) (object : Object) (last : ℕ) (indexes : IndexesState)
    → indexes_of kind (with_index (kind_of object) last indexes)
    ≡ (if is_of_kind kind object then indexes_of kind indexes ++ last ∷ [] else indexes_of kind indexes)
indexes_of-with_index Kind.Goroutine Object.Goroutine last indexes = refl
indexes_of-with_index Kind.Var Object.Var last indexes = refl
indexes_of-with_index Kind.Chan (Object.Chan capacity) last indexes = refl
indexes_of-with_index Kind.Lock (Object.Lock rw) last indexes = refl
indexes_of-with_index Kind.Once Object.Once last indexes = refl
indexes_of-with_index _ _ last indexes = refl

-- one more declaration, seen by kind
of_kind-push : (kind : Kind) (ds : List Declaration) (d : Declaration)
    → of_kind kind (ds ++ d ∷ []) ≡ (if is_of_kind kind d.object then of_kind kind ds ++ d ∷ [] else of_kind kind ds)
of_kind-push kind ds d = filter-append (λ (e : Declaration). is_of_kind kind e.object) ds (d ∷ []) ∙ by (is_of_kind kind d.object)
  where
    by : (b : Bool) → of_kind kind ds ++ cond b (d ∷ []) [] ≡ (if b then of_kind kind ds ++ d ∷ [] else of_kind kind ds)
    by true = refl
    by false = append-nil _

pub empty_numbered : AreNumbered [] no_indexes
empty_numbered = record {
  numbers = λ i r at. absurd (none-some r at);
  indexed = elim [ Kind.Goroutine ↦ nowhere | Kind.Var ↦ nowhere | Kind.Chan ↦ nowhere | Kind.Lock ↦ nowhere | Kind.Once ↦ nowhere ];
}
  where
    nowhere : Leads {X = Declaration} [] [] []
    nowhere = record { to = λ n i at. refl; sized = refl }

pub empty_well_formed : {version : Version} → IsWellFormed (record { version = version; declarations = []; places = [] })
empty_well_formed = record {
  names = λ k d h. absurd (omega arith);
  not_main = λ k d h. absurd (omega arith);
  distinct = λ i j d h k. absurd (omega arith);
  limited = elim [ Kind.Goroutine ↦ omega arith | Kind.Var ↦ omega arith | Kind.Chan ↦ omega arith | Kind.Lock ↦ omega arith | Kind.Once ↦ omega arith ];
  capacities = λ k d h. absurd (omega arith);
  places = λ k d h. absurd (omega arith);
  places_distinct = λ i j d h k. absurd (omega arith);
  places_limited = omega arith;
}

module _ (rows : List Row) (indexes : IndexesState) (numbered : AreNumbered rows indexes) (name : List ℕ) (object : Object) (number : ℕ)
    (is : number ≡ count_of (kind_of object) (declarations_of rows)) where
  abbrev ds : List Declaration
  ds = declarations_of rows

  abbrev d : Declaration
  d = record { name = name; object = object }

  abbrev new : Row
  new = row name (record { object = object; number = number })

  numbers_pushed : (i : ℕ) (r : Row) → slice_get (rows ++ new ∷ []) i ≡ Some r → r.slot.number ≡ count_of (kind_of r.slot.object) (take i (ds ++ d ∷ []))
  numbers_pushed i r at = elim (slice_get-push_cases rows new i r at) [
    | inl old ↦
        let within : i ≤ length ds = omega (arith, slice_get_within rows i r old, length-map rows declaration_of) in
        numbered.numbers i r old ∙ ap (count_of (kind_of r.slot.object)) (sym (take-append-le i ds (d ∷ []) within))
    | inr last ↦
        let all : take i (ds ++ d ∷ []) ≡ ds = ap (λ n. take n (ds ++ d ∷ [])) (last.0 ∙ sym (length-map rows declaration_of)) ∙ take-append_seam ds (d ∷ []) in
        ap (λ (x : Row). x.slot.number) last.1 ∙ is ∙ (λ j. count_of (kind_of object) (sym all j))
        ∙ (λ j. count_of (kind_of (sym last.1 j).slot.object) (take i (ds ++ d ∷ [])))
  ]

  indexed_pushed : (kind : Kind) → Leads (ds ++ d ∷ []) (of_kind kind (ds ++ d ∷ [])) (indexes_of kind (with_index (kind_of object) (length rows) indexes))
  indexed_pushed kind =
      subst (λ p. Leads (ds ++ d ∷ []) p (indexes_of kind (with_index (kind_of object) (length rows) indexes))) (sym (of_kind-push kind ds d))
      (subst (λ is. Leads (ds ++ d ∷ []) (if is_of_kind kind object then of_kind kind ds ++ d ∷ [] else of_kind kind ds) is)
      (sym (indexes_of-with_index kind object (length rows) indexes))
      (by (is_of_kind kind object)))
    where
      by : (b : Bool)
          → Leads (ds ++ d ∷ []) (if b then of_kind kind ds ++ d ∷ [] else of_kind kind ds)
          (if b then indexes_of kind indexes ++ length rows ∷ [] else indexes_of kind indexes)
      by true = Leads-same ds (of_kind kind ds) (indexes_of kind indexes) (numbered.indexed kind) d (length rows) (sym (length-map rows declaration_of))
      by false = Leads-other ds (of_kind kind ds) (indexes_of kind indexes) (numbered.indexed kind) d

  pub push_numbered : AreNumbered (rows ++ row name (record { object = object; number = number }) ∷ []) (with_index (kind_of object) (length rows) indexes)
  push_numbered =
      let e = map-append declaration_of rows (new ∷ []) in
      record {
        numbers = subst (λ (xs : List Declaration). (i : ℕ) (r : Row) → slice_get (rows ++ new ∷ []) i ≡ Some r
            → r.slot.number ≡ count_of (kind_of r.slot.object) (take i xs)) (sym e) numbers_pushed;
        indexed = subst (λ (xs : List Declaration). (kind : Kind)
            → Leads xs (of_kind kind xs) (indexes_of kind (with_index (kind_of object) (length rows) indexes))) (sym e) indexed_pushed;
      }

module _ (decls : DeclsState) (holds : IsWellFormed decls) (name : List ℕ) (object : Object) (allowed : IsAllowed decls.declarations object name) where
  abbrev added : Declaration
  added = record { name = name; object = object }

  limited_pushed : (kind : Kind) → count_of kind (decls.declarations ++ added ∷ []) ≤ limit_of kind
  limited_pushed kind = subst (λ (xs : List Declaration). first_number kind + length xs ≤ limit_of kind)
      (sym (of_kind-push kind decls.declarations added)) (by (is_of_kind kind object) refl)
    where
      by : (b : Bool) → is_of_kind kind object ≡ b
          → first_number kind + length (if b then of_kind kind decls.declarations ++ added ∷ [] else of_kind kind decls.declarations) ≤ limit_of kind
      by true e =
          let room : count_of kind decls.declarations < limit_of kind =
          subst (λ k. count_of k decls.declarations < limit_of k) (sym (kind_is kind object e)) allowed.room in
          omega (arith, room, length-append (of_kind kind decls.declarations) (added ∷ []))
      by false e = holds.limited kind

  pub push_well_formed : IsWellFormed (with_declaration decls name object)
  push_well_formed = record {
    names = All-push (λ (x : Declaration). IsTrue (is_name x.name)) decls.declarations added holds.names allowed.name;
    not_main = All-push (λ (x : Declaration). x.name ≢ main) decls.declarations added holds.not_main allowed.free.not_main;
    distinct = all_pairs_push (λ (x y : Declaration). x.name ≢ y.name) decls.declarations added holds.distinct
        (λ k e within same. differs_from_absent decls.declarations name allowed.free.absent k e within (sym same));
    limited = limited_pushed;
    capacities = All-push (λ (x : Declaration). is_too_wide x.object ≡ false) decls.declarations added holds.capacities allowed.narrow;
    places = holds.places;
    places_distinct = holds.places_distinct;
    places_limited = holds.places_limited;
  }

-- the invariant after one more declaration, from what the tables became
module _ {A : Type 0} (decls : Inside A) (holds : DeclsHold decls) (name : List ℕ)
    (object : Object) (allowed : IsAllowed (declarations_of decls.names) object name)
    (number : ℕ) (is : number ≡ count_of (kind_of object) (declarations_of decls.names)) where
  pub push_holds : (next : Inside A) → next.names ≡ decls.names ++ row name (record { object = object; number = number }) ∷ []
      → next.indexes ≡ with_index (kind_of object) (length decls.names) decls.indexes → next.places ≡ decls.places → next.version ≡ decls.version
      → DeclsHold next
  push_holds next names indexes places version = record {
    numbered = subst (λ (p : List Row × IndexesState). AreNumbered p.0 p.1) (λ i. (sym names i, sym indexes i))
        (push_numbered decls.names decls.indexes holds.numbered name object number is);
    well_formed = subst IsWellFormed
        (λ i. record {
          version = sym version i;
          declarations = (sym (map-append declaration_of decls.names (row name (record { object = object; number = number }) ∷ []))
              ∙ ap declarations_of (sym names)) i;
          places = sym places i;
        })
        (push_well_formed (decls_state decls) holds.well_formed name object allowed);
  }
