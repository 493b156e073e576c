-- What is drawn of a clean trace: each event, and the edges between them without those that say nothing new. (Our own; compare The Go Memory
-- Model, "Memory Model": happens before)
use Rattle.std.specs.Prelude.{ℕ, ◌≡◌, ◌==◌, ◌&&◌, ◌||◌, not, nat_lt, nat_le, Bool, List, [], length}
use Rattle.std.specs.List.{filter, list_any, range_with_len}
use Rattle.race_records.specs.{declared.kind.Kind.Kind, Declarations.count_of, Events.TraceState}
use Rattle.race_edges.specs.declared.edge_list.Edge.{Edge}
use Rattle.race_draw.specs.declared.{picture.Style.Style, clean.TheConstants.MAX_CLEAN_EVENTS}
use Rattle.race_draw.specs.{Layout.AreListed, Picture.{PictureState, strands_behind, columns_of}}

-- f leaves the goroutine that e leaves, where e does or later
abbrev pub leaves_at_or_behind : Edge → Edge → Bool
leaves_at_or_behind f e = (f.from_who == e.from_who) && nat_le e.from f.from

-- f enters the goroutine that e enters, where e does or earlier
abbrev pub enters_at_or_before : Edge → Edge → Bool
enters_at_or_before f e = (f.to_who == e.to_who) && nat_le f.to e.to

-- f enters a goroutine that g leaves later
abbrev pub leads_on : Edge → Edge → Bool
leads_on f g = (f.to_who == g.from_who) && nat_lt f.to g.from

-- f leaves later than e, or enters earlier
abbrev pub is_shorter : Edge → Edge → Bool
is_shorter f e = nat_lt e.from f.from || nat_lt f.to e.to

-- f leads on by one of the edges to where e enters
abbrev pub leads_by : List Edge → Edge → Edge → Bool
leads_by edges f e = list_any (λ g. leads_on f g && enters_at_or_before g e) edges

-- f leads along e, alone or with one edge more
abbrev pub leads_along : List Edge → Edge → Edge → Bool
leads_along edges e f =
    leaves_at_or_behind f e && ((enters_at_or_before f e && is_shorter f e) || leads_by edges f e)

abbrev pub is_led_along : List Edge → Edge → Bool
is_led_along edges e = list_any (leads_along edges e) edges

-- the edge leads from a goroutine to itself, or others lead along it
abbrev pub says_nothing_new : List Edge → Edge → Bool
says_nothing_new edges e = (e.from_who == e.to_who) || is_led_along edges e

-- all others, in order
abbrev pub kept : List Edge → List Edge
kept edges = filter (λ e. not (says_nothing_new edges e)) edges

-- a clean trace of so many events has a chart
abbrev pub has_chart : ℕ → Bool
has_chart events = nat_lt 0 events && nat_le events MAX_CLEAN_EVENTS

-- the picture of the trace
pub record IsCleanPictureOf (trace : TraceState) (p : PictureState) : Type 0 where
  pub edges : List Edge
  pub listed : AreListed trace edges
  pub strands : p.strands ≡ strands_behind Style.Plain [] (kept edges)
  pub columns : p.columns ≡ columns_of [] trace.events p.strands (count_of Kind.Goroutine trace.decls.declarations)
  pub rows : p.rows ≡ range_with_len 0 (length trace.events)
