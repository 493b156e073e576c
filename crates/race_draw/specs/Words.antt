-- The words of a drawing that come from the trace, and its numbers. Events are printed with numbers from 1.
use Rattle.std.specs.Prelude.{ℕ, ◌+◌, ◌-◌, List, [], ◌++◌, length, take, slice_get, codes, decimal, unwrap_or, Some, None}
use Rattle.race_records.specs.{declared.event.{Event.Event, Op.{Op, TheVariants.Exit}}, Events.TraceState}
use Rattle.race_text.specs.Text.{ended, event_line, goroutine_name}
use Rattle.race_shards.specs.Seen.{who_at}

-- the line of the trace that has event i
abbrev pub event_text : TraceState → ℕ → List ℕ
event_text trace i = elim (slice_get trace.events i) [ Some e ↦ ended (event_line trace.decls e) | None ↦ [] ]

-- the name of the goroutine whose event i is
abbrev pub name_at : TraceState → ℕ → List ℕ
name_at trace i = goroutine_name trace.decls.declarations (who_at trace.events i)

-- what is done in event i
abbrev pub op_at : List Event → ℕ → Op
op_at events i = elim (slice_get events i) [ Some e ↦ e.op | None ↦ Exit ]

-- the number of event k between these words
abbrev pub number_in : List ℕ → ℕ → List ℕ → List ℕ
number_in before k behind = before ++ decimal (k + 1) ++ behind

-- as many blanks, up to ten
abbrev pub blanks : ℕ → List ℕ
blanks n = take n (codes "          ")

-- the number of the last of these events is as wide as any
abbrev pub width_of : List ℕ → ℕ
width_of rows = length (decimal (unwrap_or (slice_get rows (length rows - 1)) 0 + 1))

-- behind two spaces the number of event k, which has at most ten digits, as wide as that
abbrev pub aligned : List ℕ → ℕ → List ℕ
aligned rows k = codes "  " ++ (blanks (width_of rows - length (decimal (k + 1))) ++ decimal (k + 1))
