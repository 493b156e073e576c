-- All orders of the accesses that keep happens before, and what a read finds in each. (Our own; compare The Go Memory
-- Model, "Memory Model": the mapping from reads to writes)
use Rattle.std.specs.Prelude.{ℕ, if◌then◌else◌, ◌≡◌, ◌<◌, ◌+◌, ◌==◌, Bool, false, IsTrue, List, [], ◌∷◌, Option, Some}
use Rattle.std.specs.{Prelude.{None, slice_get}, List.before_first}
use Rattle.race_records.specs.declared.event.{Event.Event, Op.Op}
use Rattle.race_model.specs.{Events.{is_access, reads, writes, last_of}, Order.HappensBefore}

-- there is an event at index i, and its operation passes the test
abbrev pub op_passes : (Op → Bool) → List Event → ℕ → Bool
op_passes test events i = elim (slice_get events i) [ Some e ↦ test e.op | None ↦ false ]

-- the event at index a is a Read or a Write
abbrev pub IsAccess : List Event → ℕ → Type 0
IsAccess events a = IsTrue (op_passes is_access events a)

-- a stands in the list, and b somewhere behind it
abbrev pub StandsBefore : List ℕ → ℕ → ℕ → Type 0
StandsBefore order a b = (i j : ℕ) × (i < j) × (slice_get order i ≡ Some a) × (slice_get order j ≡ Some b)

-- a reordering: the indexes of all accesses, each once, where what happens before stands before
pub record IsReordering (caps : ℕ → ℕ) (events : List Event) (order : List ℕ) : Type 0 where
  pub only : (i a : ℕ) → slice_get order i ≡ Some a → IsAccess events a
  pub each : (a : ℕ) → IsAccess events a → (i : ℕ) × (slice_get order i ≡ Some a)
  pub once : (i j a : ℕ) → slice_get order i ≡ Some a → slice_get order j ≡ Some a → i ≡ j
  pub kept : (a b : ℕ) → IsAccess events a → IsAccess events b → HappensBefore caps events a b → StandsBefore order a b

-- the indexes of the accesses in the order of the list, where the first event has index n
abbrev pub accesses_from : ℕ → List Event → List ℕ
accesses_from n [] = []
accesses_from n (e ∷ es) = if is_access e.op then n ∷ accesses_from (n + 1) es else accesses_from (n + 1) es

-- the trace's own order: the indexes of the accesses as they stand in the trace
abbrev pub own_order : List Event → List ℕ
own_order events = accesses_from 0 events

-- a, where the event at index a is a Write of x
abbrev pub write_at : List Event → ℕ → ℕ → Option ℕ
write_at events x a = if op_passes (writes x) events a then Some a else None

-- what the read r of x finds in the order: the index of the last Write of x before r, or None for the initial value
abbrev pub finds : List Event → List ℕ → ℕ → ℕ → Option ℕ
finds events order x r = last_of (write_at events x) (before_first (λ a. a == r) order)

-- every reordering lets every read find the write that it finds in the trace's own order
abbrev pub EachReadFindsTheSame : (ℕ → ℕ) → List Event → Type 0
EachReadFindsTheSame caps events =
    (order : List ℕ) → IsReordering caps events order
    → (x r : ℕ) → IsTrue (op_passes (reads x) events r) → finds events order x r ≡ finds events (own_order events) x r
