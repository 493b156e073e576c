-- A small list of events, and what is noted of it: src/examples.rt proves it.
use Rattle.std.specs.Prelude.{ℕ, Bool, List, [], ◌∷◌, None}
use Rattle.race_records.specs.declared.event.{Event.Event, Op.{Op, TheVariants.{Go, Read, Write}}}
use Rattle.race_verdict.specs.declared.report.ReportedAccess.{ReportedAccess}

-- an event of goroutine g at a place
abbrev pub does : ℕ → Op → ℕ → Event
does g o place = record { op = o; who = g; place = place; place2 = None }

-- main starts goroutine 1, which writes the variable that main then reads
abbrev pub write_and_read : List Event
write_and_read = does 0 (Go 1) 0 ∷ does 1 (Write 0 7) 1 ∷ does 0 (Read 0 7) 2 ∷ []

-- what would be printed of an access
abbrev pub note : ℕ → ℕ → Bool → ℕ → ReportedAccess
note at who write place = record { at = at; who = who; write = write; place = place }
