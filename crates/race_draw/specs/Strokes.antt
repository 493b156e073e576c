-- The rows of a picture, four bytes for each track: in its middle what stands there, beside it the strokes to the tracks left and right. What is
-- drawn of an order that is missing is stressed: 128 is added to its bytes.
use Rattle.std.specs.Prelude.{ℕ, if◌then◌else◌, ◌==◌, ◌+◌, ◌&&◌, ◌||◌, nat_lt, nat_le, min, max, Bool, false, List, [], ◌∷◌, ◌++◌}
use Rattle.std.specs.{Prelude.{Option, Some, None}, List.{find, flat_map}, Option.option_to_list}
use Rattle.race_records.specs.{declared.event.Op.{Op, TheVariants.{Read, Write}}, Events.TraceState}
use Rattle.race_shards.specs.Seen.{who_at}
use Rattle.race_draw.specs.declared.{picture.{Strand.Strand, Style.Style, TheConstants.{MAX_COLUMNS, STRESS}}, strokes.Stroke.Stroke}
use Rattle.race_draw.specs.Picture.{PictureState, column_of}

-- an event: `R` or `W` an access, `o` any other
abbrev pub mark_of : Op → ℕ
mark_of (Read x v) = 82
mark_of (Write x v) = 87
mark_of _ = 111

-- what a byte of a strand looks like: an order that is missing has dots for each line, and a way has `=`
abbrev pub in_style : Style → ℕ → ℕ
in_style Style.Missing byte = if byte == 45 || (byte == 43 || byte == 124) then 46 + STRESS else byte + STRESS
in_style Style.Way byte = if byte == 45 then 61 else byte
in_style Style.Plain byte = byte

-- of a strand inside event k a stroke that points at the goroutine that it enters
abbrev pub in_event : List ℕ → ℕ → Strand → Option Stroke
in_event columns k s =
    let from = column_of columns s.edge.from_who in
    let to = column_of columns s.edge.to_who in
    if s.edge.from == k then Some (record { low = min from to; high = max from to; tip = Some to; style = s.style }) else None

-- of one in a lane: a stroke to the lane where it leaves event k, one from there where it enters it, and one within the lane between
abbrev pub in_lane : List ℕ → ℕ → Strand → ℕ → Option Stroke
in_lane columns k s lane =
    let from = column_of columns s.edge.from_who in
    let to = column_of columns s.edge.to_who in
    if s.edge.from == k then Some (record { low = from; high = lane; tip = None; style = s.style })
    else if s.edge.to == k then Some (record { low = to; high = lane; tip = Some to; style = s.style })
    else if nat_lt s.edge.from k && nat_lt k s.edge.to then Some (record { low = lane; high = lane; tip = None; style = s.style })
    else None

-- of each; what has found no lane isn't drawn
abbrev pub stroke_of : List ℕ → ℕ → Strand → Option Stroke
stroke_of columns k s =
    if s.edge.from == s.edge.to then in_event columns k s
    else elim s.lane [ Some lane ↦ in_lane columns k s lane | None ↦ None ]

-- the strokes in the row of event k, and the event itself
abbrev pub strokes_at : TraceState → PictureState → ℕ → List Stroke
strokes_at trace p k =
    let who = column_of p.columns (who_at trace.events k) in
    flat_map (λ s. option_to_list (stroke_of p.columns k s)) p.strands
    ++ record { low = who; high = who; tip = None; style = Style.Plain } ∷ []

-- the stroke leads over the gap left of the track
abbrev pub covers : ℕ → Stroke → Bool
covers track s = nat_lt s.low track && nat_le track s.high

abbrev pub gap : List Stroke → ℕ → ℕ
gap strokes track = elim (find (covers track) strokes) [ Some s ↦ in_style s.style 45 | None ↦ 32 ]

abbrev pub is_tip : ℕ → Stroke → Bool
is_tip track s = elim s.tip [ Some tip ↦ tip == track | None ↦ false ]

-- it points at the track from the left, or from the right
abbrev pub points_right : ℕ → Stroke → Bool
points_right track s = is_tip track s && nat_lt s.low track

abbrev pub points_left : ℕ → Stroke → Bool
points_left track s = is_tip track s && nat_lt track s.high

-- an arrow's tip at the track, or what stands in the gap beside it
abbrev pub left_of : List Stroke → ℕ → ℕ
left_of strokes track = elim (find (points_right track) strokes) [ Some s ↦ in_style s.style 62 | None ↦ gap strokes track ]

abbrev pub right_of : List Stroke → ℕ → ℕ
right_of strokes track = elim (find (points_left track) strokes) [ Some s ↦ in_style s.style 60 | None ↦ gap strokes (track + 1) ]

-- it ends in the track: with the event's mark in a column, and in a lane with `+`, or `|` where it goes down
abbrev pub ends_in : ℕ → Stroke → Bool
ends_in track s = (s.low == track) || (s.high == track)

abbrev pub end_of : ℕ → ℕ → Stroke → ℕ
end_of mark track s = if nat_lt track MAX_COLUMNS then mark else if s.low == s.high then 124 else 43

-- where none ends, a goroutine's line, and in a lane what leads to those behind it
abbrev pub line_in : List Stroke → ℕ → ℕ
line_in strokes track = if nat_lt track MAX_COLUMNS then 124 else gap strokes (track + 1)

abbrev pub middle_of : List Stroke → ℕ → ℕ → ℕ
middle_of strokes mark track =
    elim (find (ends_in track) strokes) [ Some s ↦ in_style s.style (end_of mark track s) | None ↦ line_in strokes track ]

abbrev pub cell : List Stroke → ℕ → ℕ → List ℕ
cell strokes mark track = left_of strokes track ∷ middle_of strokes mark track ∷ right_of strokes track ∷ gap strokes (track + 1) ∷ []
