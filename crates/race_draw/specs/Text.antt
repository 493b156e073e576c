-- The text of drawings. Events are printed as the trace has them. A tab in it marks where the text of a line begins
-- (Fold).
use Rattle.std.specs.Prelude.{ℕ, ◌≡◌, if◌then◌else◌, ◌<◌, nat_lt, Bool, true, false, List, ◌++◌, length}
use Rattle.std.specs.{Prelude.{codes, Option, Some, None, IfSome}, List.flat_map}
use Rattle.race_records.specs.Events.{TraceState}
use Rattle.race_text.specs.Text.{ended}
use Rattle.race_verdict.specs.{Races.race_of, declared.races.Race.Race}
use Rattle.race_edges.specs.declared.fault.TheConstants.{MAX_PLAIN_EVENTS}
use Rattle.race_report.specs.{Printable.IsOf, Report.{newline, access_word, race_line, races_line, report}}
use Rattle.race_draw.specs.{Layout.{LayoutState, AreLayoutsOf}, Clean.{IsCleanPictureOf, has_chart}, Picture.PictureState}
use Rattle.race_draw.specs.{Rows.{CanBePrinted, picture_text}, Words.{event_text, name_at, op_at, number_in}, Svg.in_form}
use Rattle.race_model.specs.Verdict as model

-- which event the first access is, and what the second one has seen of its goroutine
unfoldable pub sentence_front : TraceState → Race → List ℕ
sentence_front trace r =
    codes "\n\t" ++ name_at trace r.first ++ codes "'s " ++ access_word (op_at trace.events r.first)
    ++ number_in (codes " is event ") r.first (codes ", and ") ++ name_at trace r.second ++ codes " has seen "

-- nothing, or all up to an event
abbrev pub none_seen : TraceState → Race → List ℕ
none_seen trace r = codes "nothing of " ++ name_at trace r.first ++ newline

abbrev pub some_seen : TraceState → Race → ℕ → List ℕ
some_seen trace r p = name_at trace r.first ++ number_in (codes " up to event ") p (codes ": ")

abbrev pub sentence_end : TraceState → Race → Option ℕ → List ℕ
sentence_end trace r None = none_seen trace r
sentence_end trace r (Some p) = some_seen trace r p ++ event_text trace p

abbrev pub sentence : TraceState → Race → Option ℕ → List ℕ
sentence trace r seen = sentence_front trace r ++ sentence_end trace r seen

-- behind an empty line and a tab the line of the race; then the picture and the sentence
abbrev pub drawing_text : TraceState → LayoutState → List ℕ
drawing_text trace l =
    codes "\n\t" ++ (race_line trace (race_of l.race) ++ (newline ++ (picture_text trace l.picture ++ sentence trace l.race l.seen)))

-- what tells strands apart; of more than 2,000 events no edge is listed, nor drawn
abbrev pub key : ℕ → List ℕ
key events =
    if nat_lt MAX_PLAIN_EVENTS events then ended (codes "(... is the order that is missing; of more than 2,000 events no edge is drawn)")
    else ended (codes "(... is the order that is missing, === a path from the last event seen, --- another edge)")

-- how many races there are, the key, and each of them
abbrev pub drawings_text : TraceState → List LayoutState → List ℕ
drawings_text trace layouts = races_line (length layouts) ++ (key (length trace.events) ++ flat_map (drawing_text trace) layouts)

-- a clean trace's report, and behind an empty line its picture
abbrev pub chart_text : TraceState → PictureState → List ℕ
chart_text trace p = report trace model.Clean ++ (newline ++ picture_text trace p)

-- the text is that of the drawings of these races, as an SVG document or not
pub record AreDrawn (trace : TraceState) (svg : Bool) (races : List Race) (text : List ℕ) : Type 0 where
  pub layouts : List LayoutState
  pub laid_out : AreLayoutsOf trace races layouts
  pub drawn : text ≡ in_form svg (drawings_text trace layouts)

-- the text is the chart of a clean trace that has one, and else the line of its report
abbrev pub IsChartOf : Bool → TraceState → Bool → List ℕ → Type 0
IsChartOf true trace svg text = (p : PictureState) × IsCleanPictureOf trace p × (text ≡ in_form svg (chart_text trace p))
IsChartOf false trace svg text = text ≡ in_form svg (report trace model.Clean)

abbrev pub IsDrawnClean : TraceState → Bool → List ℕ → Type 0
IsDrawnClean trace svg text = IsChartOf (has_chart (length trace.events)) trace svg text

-- the numbers that are printed are the trace's
pub record CanBeDrawn (trace : TraceState) (l : LayoutState) : Type 0 where
  pub race : IsOf trace (race_of l.race)
  pub seen : IfSome l.seen (λ p. p < length trace.events)
  pub picture : CanBePrinted trace l.picture
