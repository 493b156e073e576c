-- The private tables under a `Decls`: names with what they stand for, and where the objects of each kind stand.
use Rattle.std.specs.{Prelude.{ℕ, List, [], ◌∷◌, ◌++◌, Option, position, slice_get, option_map}, Option.option_and_then}
use Rattle.std.specs.Str.{bytes_eq}
use Rattle.race_records.specs.declared.{kind.Kind.Kind, names.Slot.Slot}

-- one row of the table of names
pub record Row : Type 0 where
  pub name : List ℕ
  pub slot : Slot

abbrev pub row : List ℕ → Slot → Row
row name slot = record { name = name; slot = slot }

-- the slot of the first row with the name
abbrev pub slot_named : List ℕ → List Row → Option Slot
slot_named name rows = option_and_then (λ i. option_map (λ r. r.slot) (slice_get rows i)) (position (λ r. bytes_eq name r.name) rows)

-- where in the list of declarations the objects of each kind stand, in order
pub record IndexesState : Type 0 where
  pub goroutines : List ℕ
  pub vars : List ℕ
  pub chans : List ℕ
  pub locks : List ℕ
  pub onces : List ℕ

-- no object of any kind
abbrev pub no_indexes : IndexesState
no_indexes = record { goroutines = []; vars = []; chans = []; locks = []; onces = [] }

-- the indexes of one kind
abbrev pub indexes_of : Kind → IndexesState → List ℕ
indexes_of Kind.Goroutine i = i.goroutines
indexes_of Kind.Var i = i.vars
indexes_of Kind.Chan i = i.chans
indexes_of Kind.Lock i = i.locks
indexes_of Kind.Once i = i.onces

-- one more of the kind
abbrev pub with_index : Kind → ℕ → IndexesState → IndexesState
with_index Kind.Goroutine index i = record i { goroutines = i.goroutines ++ index ∷ [] }
with_index Kind.Var index i = record i { vars = i.vars ++ index ∷ [] }
with_index Kind.Chan index i = record i { chans = i.chans ++ index ∷ [] }
with_index Kind.Lock index i = record i { locks = i.locks ++ index ∷ [] }
with_index Kind.Once index i = record i { onces = i.onces ++ index ∷ [] }
