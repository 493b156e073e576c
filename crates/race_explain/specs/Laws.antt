-- The line that is named is there, and has what is shown. The functions in src/laws.rt are these laws.
use Rattle.std.specs.Prelude.{◌≡◌, ℕ, List, slice_get, Some}
use Rattle.race_records.specs.{declared.event.Event.Event, Events.TraceState}
use Rattle.race_text.specs.{declared.cause.TextFault.TextFault, Text.{HasText, event_line, text}, Lines.{Causes, first_fault}}
use Rattle.race_explain.specs.{Shown.line_of, Marked.line_at}

-- in a trace's text the line that is named for an event is its line
abbrev pub EventsHaveTheirLines : Type 0
EventsHaveTheirLines =
    (t : TraceState) → HasText t → (i : ℕ) (e : Event) → slice_get t.events i ≡ Some e → line_at (text t) (line_of t i) ≡ Some (event_line t.decls e)

-- bytes have the line of their first fault
abbrev pub FaultsHaveTheirLines : Type 0
FaultsHaveTheirLines =
    (causes : Causes) (bytes : List ℕ) (fault : TextFault) → first_fault causes bytes ≡ Some fault
    → (line : List ℕ) × (line_at bytes fault.line ≡ Some line)
