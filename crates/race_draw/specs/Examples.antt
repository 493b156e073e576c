-- Small lists of edges, and what is drawn of them: src/examples.rt proves it.
use Rattle.std.specs.{Prelude.{ℕ, true, List, [], ◌∷◌, map, Option}, List.range_with_len}
use Rattle.race_edges.specs.declared.edge_list.Edge.{Edge}
use Rattle.race_draw.specs.{declared.{fold.Spot.Spot, picture.{Strand.Strand, Style.Style}}, Picture.strands_behind}

-- the edge from what this goroutine does in this event to what that one does in that event
abbrev pub edge : ℕ → ℕ → ℕ → ℕ → Edge
edge from_who from to_who to = record { from = from; from_who = from_who; to = to; to_who = to_who }

-- the lanes of edges
abbrev pub lanes_of : List Edge → List (Option ℕ)
lanes_of edges = map (λ (s : Strand). s.lane) (strands_behind Style.Plain [] edges)

-- so many goroutines, main the first of them
abbrev pub goroutines : ℕ → List ℕ
goroutines count = range_with_len 0 count

-- goroutine 1 receives in event 1 what main sent in event 0, and its receive makes room for a send by goroutine 2
abbrev pub over_a_receive : List Edge
over_a_receive = edge 0 0 1 1 ∷ edge 1 1 2 2 ∷ edge 0 0 2 2 ∷ []

-- goroutine 1 receives in event 1 what main sent, and sends in event 2 what goroutine 2 receives
abbrev pub handed_on : List Edge
handed_on = edge 0 0 1 1 ∷ edge 1 2 2 3 ∷ edge 0 0 2 3 ∷ []

-- behind an access of main in event 1 its unlock in event 2 leads to a lock of goroutine 2, and then to one of goroutine 1
abbrev pub unlock_for_both : List Edge
unlock_for_both = edge 0 2 2 3 ∷ edge 0 2 1 4 ∷ []

-- the edge that is missing, from main's access to one of this goroutine
abbrev pub missing_to : ℕ → Edge
missing_to who = edge 0 1 who 6

-- in the text of a line, before this column
abbrev pub at : ℕ → Spot
at column = record { in_text = true; indent = 2; column = column }
