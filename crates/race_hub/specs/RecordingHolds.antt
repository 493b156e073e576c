-- What the fields of a `Recording` stand for, and what holds of them.
use Rattle.std.specs.Prelude.{◌≡◌, length}
use Rattle.race_records.specs.{declared.kind.Kind.Kind, Declarations.{capacity_of, count_of}}
use Rattle.race_model.specs.Legal.{IsLegal}
use Rattle.race_hub.specs.{declared.recording.Recording.TheInside.Inside, Recording.{RecordingState, AreParts}, Logs.logs_in}

module _ {A : Type 0} where
  abbrev pub recording_state : Inside A → RecordingState
  recording_state r = record {
    decls = r.trace.decls;
    events = r.trace.events;
    logs = logs_in r.tracks.items;
    waiting = r.waiting.items;
    end = r.end;
  }

  -- there is a log for each goroutine; the trace is legal, and each log is its goroutine's part of it
  pub record RecordingHolds (r : Inside A) : Type 0 where
    pub count : length r.tracks.items ≡ count_of Kind.Goroutine r.trace.decls.declarations
    pub legal : IsLegal (capacity_of r.trace.decls.declarations) r.trace.events
    pub parts : AreParts (logs_in r.tracks.items) r.trace.events
