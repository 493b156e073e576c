-- What is drawn of a race: strands between events, and the events that they touch.
-- The first strand is the order that is missing, from the first access to the second. Then come the way by which the second access got to know
-- of the last event that it has seen of the first one's goroutine; the next edge that leaves that goroutine behind its access; and the edges
-- by which the two goroutines were started. (Our own; compare The Go Memory Model, "Memory Model": data race)
use Rattle.std.specs.Prelude.{ℕ, ◌≡◌, ◌<◌, ◌≤◌, ◌⊎◌, ◌==◌, ◌&&◌, ◌||◌, not, nat_lt, Bool, List, [], ◌∷◌, ◌++◌}
use Rattle.std.specs.{Prelude.{length, slice_get, unwrap_or, Option, Some, None}, List.{filter, find, list_any}}
use Rattle.std.specs.{List.range_with_len, Option.option_to_list}
use Rattle.race_records.specs.declared.{event.Event.Event, kind.Kind.Kind}
use Rattle.race_records.specs.{Declarations.count_of, Events.TraceState}
use Rattle.race_verdict.specs.{declared.races.Race.Race, Traces.capacities}
use Rattle.race_edges.specs.declared.{fault.TheConstants.MAX_PLAIN_EVENTS, edge_list.Edge.Edge}
use Rattle.race_edges.specs.Edges.{IsEdge, AreEdges}
use Rattle.race_shards.specs.Seen.{who_at, IsLastSeen}
use Rattle.race_draw.specs.{declared.picture.{Strand.Strand, Style.Style}, Picture.{PictureState, strands_behind, columns_of}}

-- what is printed: the race, the last event that the second access has seen of the first one's goroutine, and the picture
pub record LayoutState : Type 0 where
  pub race : Race
  pub seen : Option ℕ
  pub picture : PictureState

-- these are all edges of the trace, or none of one that is too long for them to be listed
abbrev pub AreListed : TraceState → List Edge → Type 0
AreListed trace edges =
    ((length trace.events ≤ MAX_PLAIN_EVENTS) × AreEdges (capacities trace) trace.events edges)
    ⊎ ((MAX_PLAIN_EVENTS < length trace.events) × (edges ≡ []))

-- from the first access to the second: no edge, and the way that is missing
abbrev pub missing : List Event → Race → Edge
missing events r = record { from = r.first; from_who = who_at events r.first; to = r.second; to_who = who_at events r.second }

-- a way from g's begin in event p to what h does in event j and before it: each edge enters the goroutine that the next one leaves, before it
-- does. The last edge comes first
abbrev pub IsWay : (ℕ → ℕ) → List Event → ℕ → ℕ → List Edge → ℕ → ℕ → Type 0
IsWay caps events p g [] j h = (p ≡ j) × (g ≡ h)
IsWay caps events p g (e ∷ way) j h = IsEdge caps events e × (e.to_who ≡ h) × (e.to < j) × IsWay caps events p g way e.from e.from_who

-- a way from the event that was seen to the second access, where one is shown
abbrev pub IsWayShown : (ℕ → ℕ) → List Event → Option ℕ → Edge → List Edge → Type 0
IsWayShown caps events None m way = way ≡ []
IsWayShown caps events (Some p) m way = (way ≡ []) ⊎ IsWay caps events p m.from_who way m.to m.to_who

-- the edge leaves g behind event i, for another goroutine
abbrev pub leaves_behind : ℕ → ℕ → Edge → Bool
leaves_behind g i e = ((e.from_who == g) && nat_lt i e.from) && not (e.to_who == g)

-- the edge is inside an event, and enters g: the first such edge is g's start. Main, goroutine 0, has none
abbrev pub enters_inside : ℕ → Edge → Bool
enters_inside g e = ((e.to_who == g) && (e.from == e.to)) && not (g == 0)

-- the edge leaves where e does, and enters h
abbrev pub leaves_for : Edge → ℕ → Edge → Bool
leaves_for e h f = ((f.from == e.from) && (f.from_who == e.from_who)) && (f.to_who == h)

-- the first edge that leaves the first access's goroutine behind it; where others leave with it, the first of them to the second one's, if any
abbrev pub next_of : List Edge → Edge → List Edge
next_of edges m = elim (find (leaves_behind m.from_who m.from) edges) [
  | Some e ↦ unwrap_or (find (leaves_for e m.to_who) edges) e ∷ []
  | None ↦ []
]

-- the edge leaves an event from which the way leads on
abbrev pub is_on : List Edge → Edge → Bool
is_on way e = list_any (λ w. w.from == e.from) way

-- the edge by which g was started, unless the way goes by it
abbrev pub start_of : List Edge → List Edge → ℕ → List Edge
start_of edges way g = filter (λ e. not (is_on way e)) (option_to_list (find (enters_inside g) edges))

-- all of them, each in its lane
abbrev pub others_of : List Edge → List Edge → Edge → List Edge
others_of edges way m = next_of edges m ++ start_of edges way m.from_who ++ start_of edges way m.to_who

abbrev pub strands_of : List Edge → Edge → List Edge → List Strand
strands_of edges m way =
    strands_behind Style.Plain (strands_behind Style.Way (strands_behind Style.Missing [] (m ∷ [])) way) (others_of edges way m)

-- a strand leaves event k, or enters it
abbrev pub is_shown : List Strand → ℕ → Bool
is_shown strands k = list_any (λ s. (s.edge.from == k) || (s.edge.to == k)) strands

-- the events that are shown, in order
abbrev pub rows_of : ℕ → List Strand → List ℕ
rows_of events strands = filter (is_shown strands) (range_with_len 0 events)

-- the picture of a race, by these edges and this way
pub record IsPictureOf (trace : TraceState) (edges : List Edge) (m : Edge) (way : List Edge) (p : PictureState) : Type 0 where
  pub strands : p.strands ≡ strands_of edges m way
  pub columns : p.columns ≡ columns_of (m.from_who ∷ m.to_who ∷ []) [] p.strands (count_of Kind.Goroutine trace.decls.declarations)
  pub rows : p.rows ≡ rows_of (length trace.events) p.strands

-- what is drawn of the race
pub record IsLayoutOf (trace : TraceState) (edges : List Edge) (r : Race) (l : LayoutState) : Type 0 where
  pub race : l.race ≡ r
  pub seen : IsLastSeen (capacities trace) trace.events r l.seen
  pub way : List Edge
  pub is_way : IsWayShown (capacities trace) trace.events l.seen (missing trace.events r) way
  pub picture : IsPictureOf trace edges (missing trace.events r) way l.picture

-- what is drawn of each race of a list, in order
pub record AreLaidOut (trace : TraceState) (edges : List Edge) (races : List Race) (layouts : List LayoutState) : Type 0 where
  pub as_many : length layouts ≡ length races
  pub each : (k : ℕ) (r : Race) (l : LayoutState) → slice_get races k ≡ Some r → slice_get layouts k ≡ Some l → IsLayoutOf trace edges r l

-- by the edges of the trace
abbrev pub AreLayoutsOf : TraceState → List Race → List LayoutState → Type 0
AreLayoutsOf trace races layouts = (edges : List Edge) × AreListed trace edges × AreLaidOut trace edges races layouts
