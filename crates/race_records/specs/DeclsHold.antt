-- What the fields of a `Decls` stand for, and what holds of them.
use Rattle.std.specs.Prelude.{◌≡◌, ℕ, List, length, take, slice_get, Some}
use Rattle.race_records.specs.{declared.{kind.Kind.Kind, declarations.Decls.TheInside.Inside}, Declarations.DeclsState}
use Rattle.race_records.specs.{Declarations.{IsWellFormed, kind_of, of_kind, count_of}, Rows.declarations_of}
use Rattle.race_records.specs.Tables.{Row, IndexesState, indexes_of}

-- the indexes lead, in order, to just those of the list that stand in part
pub record Leads {X : Type 0} (list part : List X) (indexes : List ℕ) : Type 0 where
  pub to : (n i : ℕ) → slice_get indexes n ≡ Some i → slice_get list i ≡ slice_get part n
  pub sized : length indexes ≡ length part

-- each row has its object's number, and the indexes of each kind lead to its declarations
pub record AreNumbered (names : List Row) (indexes : IndexesState) : Type 0 where
  pub numbers : (i : ℕ) (row : Row) → slice_get names i ≡ Some row
      → row.slot.number ≡ count_of (kind_of row.slot.object) (take i (declarations_of names))
  pub indexed : (kind : Kind) → Leads (declarations_of names) (of_kind kind (declarations_of names)) (indexes_of kind indexes)

module _ {A : Type 0} where
  abbrev pub decls_state : Inside A → DeclsState
  decls_state decls = record { version = decls.version; declarations = declarations_of decls.names; places = decls.places }

  pub record DeclsHold (decls : Inside A) : Type 0 where
    pub numbered : AreNumbered decls.names decls.indexes
    pub well_formed : IsWellFormed (decls_state decls)
