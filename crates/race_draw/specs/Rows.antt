-- The text of a picture: the heads of the columns, each above its own, and a row for each event that is shown.
use Rattle.std.specs.Prelude.{ℕ, if◌then◌else◌, ◌==◌, ◌-◌, ◌*◌, ◌&&◌, ◌<◌, nat_lt, not, Bool, All, List, [], ◌++◌, length, take}
use Rattle.std.specs.{Prelude.{codes, is_some}, List.{flat_map, range_with_len}}
use Rattle.race_records.specs.{declared.kind.Kind.Kind, Declarations.count_of, Events.TraceState}
use Rattle.race_text.specs.Text.{goroutine_name}
use Rattle.race_report.specs.Report.{newline}
use Rattle.race_draw.specs.declared.picture.{Strand.Strand, TheConstants.{MAX_COLUMNS, TRACKS}}
use Rattle.race_draw.specs.declared.strokes.Stroke.{Stroke}
use Rattle.race_draw.specs.{Picture.{PictureState, column_of, is_used}, Strokes.{cell, mark_of, strokes_at}}
use Rattle.race_draw.specs.Words.{aligned, event_text, number_in, op_at}

-- the lines of the goroutines left of a track
abbrev pub bars : ℕ → List ℕ
bars track = take (track * 4) (codes " |   |   |   |   |   |   |   |   |  ")

-- g's name, or `others` above the column that all others share
abbrev pub head_name : TraceState → ℕ → ℕ → List ℕ
head_name trace track g = if track == MAX_COLUMNS - 1 then codes "others" else goroutine_name trace.decls.declarations g

abbrev pub head_line : TraceState → ℕ → ℕ → List ℕ
head_line trace track g = bars track ++ (codes " " ++ (head_name trace track g ++ newline))

abbrev pub heads : TraceState → List ℕ → List ℕ
heads trace columns = flat_map (λ g. head_line trace (column_of columns g) g) columns

-- a cell for each track that is used
abbrev pub track_text : PictureState → List Stroke → ℕ → ℕ → List ℕ
track_text p strokes mark track = if is_used p track then cell strokes mark track else []

abbrev pub cells_text : PictureState → List Stroke → ℕ → List ℕ
cells_text p strokes mark = flat_map (track_text p strokes mark) (range_with_len 0 TRACKS)

-- the strand has found no lane to event k, which it enters
abbrev pub has_no_lane : ℕ → Strand → Bool
has_no_lane k s = not (is_some s.lane) && ((s.edge.to == k) && nat_lt s.edge.from k)

-- so it is told
abbrev pub told_if : ℕ → Strand → List ℕ
told_if k s = if has_no_lane k s then number_in (codes "(also after event ") s.edge.from (codes ") ") else []

-- the row of event k: its cells, its number, the edges without a lane, and the event
abbrev pub row_text : TraceState → PictureState → ℕ → List ℕ
row_text trace p k =
    cells_text p (strokes_at trace p k) (mark_of (op_at trace.events k))
    ++ (aligned p.rows k ++ (codes "  \t" ++ (flat_map (told_if k) p.strands ++ event_text trace k)))

abbrev pub picture_text : TraceState → PictureState → List ℕ
picture_text trace p = heads trace p.columns ++ flat_map (row_text trace p) p.rows

-- the numbers that are printed are the trace's
pub record CanBePrinted (trace : TraceState) (p : PictureState) : Type 0 where
  pub columns : All (λ g. g < count_of Kind.Goroutine trace.decls.declarations) p.columns
  pub rows : All (λ k. k < length trace.events) p.rows
