-- The edges that are listed so far.
use Rattle.std.specs.Prelude.{ℕ, ◌≡◌, ◌<◌, ◌⊎◌, if◌then◌else◌, Bool, List, [], ◌∷◌, ◌++◌, Some, slice_get}
use Rattle.race_records.specs.declared.event.Event.{Event}
use Rattle.race_edges.specs.{declared.edge_list.Edge.Edge, Edges.{IsEdge, ComesBefore}}

-- all edges of the events of which this holds, each once, in order
pub record AreEdgesWhere (Holds : Edge → Type 0) (caps : ℕ → ℕ) (events : List Event) (edges : List Edge) : Type 0 where
  pub each : (k : ℕ) (e : Edge) → slice_get edges k ≡ Some e → IsEdge caps events e × Holds e
  pub rising : (k m : ℕ) (d e : Edge) → k < m → slice_get edges k ≡ Some d → slice_get edges m ≡ Some e → ComesBefore d e
  pub every : (e : Edge) → IsEdge caps events e → Holds e → (k : ℕ) × (slice_get edges k ≡ Some e)

-- the edge leads from an event before i, or from event i to one before j
abbrev pub LeadsBefore : ℕ → ℕ → Edge → Type 0
LeadsBefore i j e = (e.from < i) ⊎ ((e.from ≡ i) × (e.to < j))

-- all such edges, each once, in order
abbrev pub AreEdgesBefore : ℕ → ℕ → (ℕ → ℕ) → List Event → List Edge → Type 0
AreEdgesBefore i j caps events edges = AreEdgesWhere (LeadsBefore i j) caps events edges

-- the edge from g's begin to h's end in event i
abbrev pub edge_inside : ℕ → ℕ → ℕ → Edge
edge_inside i g h = record { from = i; from_who = g; to = i; to_who = h }

-- the list with the edge at its end, where it is one
abbrev pub with_edge : Bool → Edge → List Edge → List Edge
with_edge is e edges = if is then edges ++ e ∷ [] else edges
