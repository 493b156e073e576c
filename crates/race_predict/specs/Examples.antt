-- A recorded trace, other runs of its goroutines, and lists that aren't: src/examples.rt proves it.
use Rattle.std.specs.Prelude.{ℕ, false, List, [], ◌∷◌, codes}
use Rattle.race_records.specs.declared.{event.{Event.Event, Op.TheVariants.{Go, Read, Write, Lock, Unlock}}, kind.Object.Object}
use Rattle.race_records.specs.{declared.version.Version.Version, Declarations.{Declaration}, Events.TraceState}
use Rattle.race_model.specs.{Examples.{main, w, v, x, does}, LockExamples.l, PredictExamples.{y, w_locks_first}}
use Rattle.race_verdict.specs.declared.races.Race.{Race}
use Rattle.race_predict.specs.declared.positions.Position.{Position}

-- the variables and the lock of race_model's lists, and their goroutines but main
abbrev pub declarations : List Declaration
declarations =
    record { name = codes "w"; object = Object.Goroutine } ∷ record { name = codes "v"; object = Object.Goroutine }
    ∷ record { name = codes "x"; object = Object.Var } ∷ record { name = codes "y"; object = Object.Var }
    ∷ record { name = codes "l"; object = Object.Lock false } ∷ []

-- a trace of these events
abbrev pub trace_in : Version → List Event → TraceState
trace_in version events = record {
  decls = record { version = version; declarations = declarations; places = codes "p" ∷ [] };
  events = events;
  spare = 0;
}

abbrev pub trace : List Event → TraceState
trace = trace_in Version.One

-- w writes and locks, then main locks and reads
abbrev pub recorded : TraceState
recorded = trace w_locks_first

-- the indexes there of main_locks_first, and those of main_reads_first
abbrev pub locks_first : List ℕ
locks_first = 0 ∷ 4 ∷ 5 ∷ 1 ∷ 6 ∷ []

abbrev pub reads_first : List ℕ
reads_first = 0 ∷ 4 ∷ 5 ∷ 6 ∷ 1 ∷ []

-- before w locks, v reads y, which w wrote
abbrev pub v_reads : List Event
v_reads =
    does main (Go w) ∷ does main (Go v) ∷ does w (Write y 1) ∷ does v (Read y 1) ∷ does w (Write x 1) ∷ does w (Lock l) ∷ does w (Unlock l)
    ∷ does main (Lock l) ∷ does main (Unlock l) ∷ does main (Read x 1) ∷ []

-- v reads y before w writes it, and w doesn't lock
abbrev pub v_reads_first : List Event
v_reads_first =
    does main (Go w) ∷ does main (Go v) ∷ does v (Read y 0) ∷ does w (Write y 1) ∷ does main (Lock l) ∷ does main (Unlock l)
    ∷ does w (Write x 1) ∷ does main (Read x 1) ∷ []

abbrev pub read_first : List ℕ
read_first = 0 ∷ 1 ∷ 3 ∷ 2 ∷ 7 ∷ 8 ∷ 4 ∷ 9 ∷ []

-- w does the same twice, or once
abbrev pub w_writes_twice : List Event
w_writes_twice = does main (Go w) ∷ does w (Write x 1) ∷ does w (Write x 1) ∷ []

abbrev pub w_writes : List Event
w_writes = does main (Go w) ∷ does w (Write x 1) ∷ []

-- a race on x
abbrev pub race : ℕ → ℕ → Race
race first second = record { var = x; first = first; second = second }

-- so many events before an event
abbrev pub before : ℕ → ℕ → Position
before own partners = record { own = own; partners = partners }
