-- Which events are shown after a report, with their lines. Events are printed with numbers from 1.
use Rattle.std.specs.Prelude.{ℕ, ◌+◌, List, [], ◌++◌, length, slice_get, codes, decimal, Some, None}
use Rattle.race_records.specs.Events.{TraceState}
use Rattle.race_text.specs.Text.{ended, event_line}
use Rattle.race_verdict.specs.declared.races.Race.{Race}

-- the line of the trace that has event i
abbrev pub event_text : TraceState → ℕ → List ℕ
event_text trace i = elim (slice_get trace.events i) [ Some e ↦ ended (event_line trace.decls e) | None ↦ [] ]

-- its number: after the header and the declarations each event has one
abbrev pub line_of : TraceState → ℕ → ℕ
line_of trace i = length trace.decls.declarations + i + 2

-- its number, its line's, and the line
unfoldable pub event_shown : TraceState → ℕ → List ℕ
event_shown trace i =
    codes "event " ++ (decimal (i + 1) ++ (codes " is line " ++ (decimal (line_of trace i) ++ (codes ": " ++ event_text trace i))))

-- after an empty line both accesses of a race
unfoldable pub race_shown : TraceState → Race → List ℕ
race_shown trace race = codes "\n" ++ (event_shown trace race.first ++ event_shown trace race.second)
