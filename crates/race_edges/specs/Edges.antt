-- The synchronization edges of a list of events, in order. (The Go Memory Model, "Memory Model": synchronized before)
use Rattle.std.specs.Prelude.{ℕ, ◌≡◌, ◌<◌, ◌⊎◌, List, Some, slice_get}
use Rattle.race_records.specs.declared.event.Event.{Event}
use Rattle.race_model.specs.Order.{Begin, End, SynchronizedBefore}
use Rattle.race_edges.specs.declared.edge_list.Edge.{Edge}

-- the begin of from_who in event from is synchronized before the end of to_who in event to
abbrev pub IsEdge : (ℕ → ℕ) → List Event → Edge → Type 0
IsEdge caps events e = SynchronizedBefore caps events (Begin e.from e.from_who) (End e.to e.to_who)

-- d stands before e: by from, then by to, then by from_who, then by to_who
abbrev pub ComesBefore : Edge → Edge → Type 0
ComesBefore d e =
    (d.from < e.from) ⊎ ((d.from ≡ e.from) × ((d.to < e.to) ⊎ ((d.to ≡ e.to)
    × ((d.from_who < e.from_who) ⊎ ((d.from_who ≡ e.from_who) × (d.to_who < e.to_who))))))

-- all edges of the events, each once, in order
pub record AreEdges (caps : ℕ → ℕ) (events : List Event) (edges : List Edge) : Type 0 where
  pub each : (k : ℕ) (e : Edge) → slice_get edges k ≡ Some e → IsEdge caps events e
  pub rising : (k m : ℕ) (d e : Edge) → k < m → slice_get edges k ≡ Some d → slice_get edges m ≡ Some e → ComesBefore d e
  pub every : (e : Edge) → IsEdge caps events e → (k : ℕ) × (slice_get edges k ≡ Some e)
