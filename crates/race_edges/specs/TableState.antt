-- What the judge keeps of the events so far, and how the next event changes it.
use Rattle.std.specs.Prelude.{ℕ, zero, suc, ◌<◌, if◌then◌else◌, Bool, true, false, List, [], ◌∷◌, ◌++◌, not, ◌&&◌}
use Rattle.std.specs.{Prelude.{length, slice_set, IfSome, Some, None}, List.slice_index_or}
use Rattle.race_records.specs.declared.event.{Event.Event, Op.Op}
use Rattle.race_model.specs.{Events.partner, Synchronized.joins}
use Rattle.race_edges.specs.Synchronized.{can_be_source}

-- a `Table` as its callers see it
pub record TableState : Type 0 where
  -- a row for each goroutine: whether it has seen the begin of the event at each index
  pub rows : List (List Bool)
  -- a row for each event: what its goroutine had seen at its begin; an empty one where it can't be a source
  pub heard : List (List Bool)

-- the row at an index
abbrev pub row_of : List (List Bool) → ℕ → List Bool
row_of rows g = slice_index_or rows g []

-- the row at index g tells of event i
abbrev pub sees : List (List Bool) → ℕ → ℕ → Bool
sees rows g i = slice_index_or (row_of rows g) i false

-- the row, which tells in addition of those of the first n events of which the other one does
abbrev pub joined : List Bool → List Bool → ℕ → List Bool
joined row other zero = row
joined row other (suc n) = if slice_index_or other n false then slice_set (joined row other n) n true else joined row other n

-- g has seen event i in addition
abbrev pub with_seen : List (List Bool) → ℕ → ℕ → List (List Bool)
with_seen rows g i = slice_set rows g (slice_set (row_of rows g) i true)

-- g has seen in addition what the row tells
abbrev pub with_row : List (List Bool) → ℕ → List Bool → List (List Bool)
with_row rows g row = slice_set rows g (joined (row_of rows g) row (length (row_of rows g)))

-- where it is so, `to` has seen in addition all that `from` has
abbrev pub given : Bool → List (List Bool) → ℕ → ℕ → List (List Bool)
given is rows from to = if is then with_row rows to (row_of rows from) else rows

-- the participants of an event, in which who does o, have seen what the edges inside bring
abbrev pub inside : List (List Bool) → ℕ → Op → List (List Bool)
inside rows who o =
    elim (partner o) [
      | Some p ↦ given (joins who o p who) (given (joins who o who p) rows who p) p who
      | None ↦ rows
    ]

-- g has seen what was seen at the begin of each source among the first n events. The latest comes first, and a source that g has
-- seen by then is passed over, since it brings nothing more
abbrev pub taken : (ℕ → Bool) → List (List Bool) → List (List Bool) → ℕ → ℕ → List (List Bool)
taken is_source heard rows g zero = rows
taken is_source heard rows g (suc n) =
    taken is_source heard (if not (sees rows g n) && is_source n then with_row rows g (row_of heard n) else rows) g n

-- what is kept of an event, in which who does o
abbrev pub kept : List (List Bool) → ℕ → Op → List Bool
kept rows who o = if can_be_source o then row_of rows who else []

-- the table behind event n, in which who does o
abbrev pub table_after : (ℕ → Bool) → TableState → ℕ → ℕ → Op → TableState
table_after is_source table n who o = record {
  rows = taken is_source table.heard (inside (with_seen table.rows who n) who o) who n;
  heard = table.heard ++ kept (with_seen table.rows who n) who o ∷ [];
}

-- each goroutine that takes part in the event has a row
abbrev pub HasRows : List (List Bool) → Event → Type 0
HasRows rows e = (e.who < length rows) × IfSome (partner e.op) (λ g. g < length rows)
