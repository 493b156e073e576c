-- A picture: goroutines go down in columns, strands between them run in lanes beside them, and each event that is shown has a row. Columns and
-- lanes are tracks, numbered from the left: the lanes from MAX_COLUMNS on.
use Rattle.std.specs.Prelude.{ℕ, if◌then◌else◌, ◌==◌, ◌-◌, ◌&&◌, ◌||◌, not, nat_lt, Bool, false, List, [], ◌∷◌, ◌++◌}
use Rattle.std.specs.{Prelude.{length, position, take, unwrap_or, Option, Some, None}, List.{filter, find, list_any, range_with_len}}
use Rattle.race_records.specs.declared.event.Event.{Event}
use Rattle.race_edges.specs.declared.edge_list.Edge.{Edge}
use Rattle.race_draw.specs.declared.picture.{Strand.Strand, Style.Style, TheConstants.{MAX_COLUMNS, MAX_LANES}}

-- the goroutines that have columns, what is drawn between them, and the events that are shown
pub record PictureState : Type 0 where
  pub columns : List ℕ
  pub strands : List Strand
  pub rows : List ℕ

-- the strand is in the lane
abbrev pub is_in : ℕ → Strand → Bool
is_in lane s = elim s.lane [ Some own ↦ own == lane | None ↦ false ]

-- and the edge would meet it there
abbrev pub is_in_the_way : Edge → ℕ → Strand → Bool
is_in_the_way e lane s = is_in lane s && not (nat_lt s.edge.to e.from || nat_lt e.to s.edge.from)

abbrev pub is_free : List Strand → Edge → ℕ → Bool
is_free strands e lane = not (list_any (is_in_the_way e lane) strands)

-- the first lane that is free behind these strands, if any is; none inside one event
abbrev pub lane_of : List Strand → Edge → Option ℕ
lane_of strands e = if e.from == e.to then None else find (is_free strands e) (range_with_len MAX_COLUMNS MAX_LANES)

abbrev pub strand_of : List Strand → Style → Edge → Strand
strand_of strands style e = record { edge = e; style = style; lane = lane_of strands e }

-- each edge takes its lane behind those before it
abbrev pub strands_behind : Style → List Strand → List Edge → List Strand
strands_behind style strands [] = strands
strands_behind style strands (e ∷ edges) = strands_behind style (strands ++ strand_of strands style e ∷ []) edges

-- the strand leaves or enters the goroutine
abbrev pub touches : ℕ → Strand → Bool
touches g s = (s.edge.from_who == g) || (s.edge.to_who == g)

-- the goroutine isn't among these, which come first, and takes part: it does one of the events, or a strand touches it
abbrev pub comes_behind : List ℕ → List Event → List Strand → ℕ → Bool
comes_behind front events strands g =
    not (list_any (λ f. f == g) front) && (list_any (λ e. e.who == g) events || list_any (touches g) strands)

-- the columns: these goroutines, and of so many those that take part. The tenth is for all that have none of their own
abbrev pub columns_of : List ℕ → List Event → List Strand → ℕ → List ℕ
columns_of front events strands goroutines = take MAX_COLUMNS (front ++ filter (comes_behind front events strands) (range_with_len 0 goroutines))

-- the track of a goroutine
abbrev pub column_of : List ℕ → ℕ → ℕ
column_of columns g = unwrap_or (position (λ c. c == g) columns) (MAX_COLUMNS - 1)

-- a goroutine or a strand is in the track
abbrev pub is_used : PictureState → ℕ → Bool
is_used p track = nat_lt track (length p.columns) || list_any (is_in track) p.strands
