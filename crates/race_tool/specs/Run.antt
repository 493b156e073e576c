-- Which reply is right where a program is run.
use Rattle.std.specs.Prelude.{ℕ, ◌≡◌, ◌&&◌, ◌⊎◌, nat_le, Bool, List, Option, Some, IfSome}
use Rattle.race_records.specs.{declared.{source.Source.Source, sink.Sink.Sink, trace.TheConstants.MAX_EVENTS}, Events.TraceState}
use Rattle.race_text.specs.Text.{HasText, text}
use Rattle.race_hub.specs.{declared.ending.End.End, Hub.HubState, Recording.RecordingState}
use Rattle.race_script.specs.{Certificate.IsCertified, Fault.{text_fault, program_causes}, Program.ProgramState, Run.{ScriptState, Asks}}
use Rattle.race_script.specs.Text.{IsTextOf}
use Rattle.race_record.specs.{Recorded.IsRecordingOf, Serial.{IsSerial, IsTurnedAway}}
use Rattle.race_explore.specs.Walk.{Opens}
use Rattle.race_tool.specs.{declared.reply.Reply.Reply, Outcome.Answers, Reply.{reply_text, reply_status}}
use Rattle.race_tool.specs.declared.status.TheConstants as status

-- the limit on the events of a run is in its own limits
abbrev pub is_run_limit : ℕ → Bool
is_run_limit limit = nat_le 1 limit && nat_le limit MAX_EVENTS

-- a recording of a hub of the program's scripts, which follows the program. With picks it is the one to which the hub comes by them on
-- one thread; without, workers made it, and nothing says which of the program's runs they record
pub record IsRunOf (limit : ℕ) (picks : Option (List ℕ)) (program : ProgramState) (r : RecordingState) : Type 0 where
  pub hub : HubState ScriptState
  pub opens : Opens program limit hub
  pub recording : IsRecordingOf hub r
  pub serial : IfSome picks (λ list. IsSerial Asks list hub r)
  pub certified : IsCertified program r

-- what was recorded of the hub by these picks isn't a run of the program
abbrev pub IsUncertified : List ℕ → ProgramState → HubState ScriptState → Type 0
IsUncertified picks program hub = (r : RecordingState) × IsSerial Asks picks hub r × (IsCertified program r → ⊥)

-- of a run of the program by these picks there is no recording, since a log isn't its goroutine's part of the trace, or what was
-- recorded isn't a run of the program. Without picks nothing is said of why there is none
pub record IsRefusedRun (limit : ℕ) (picks : Option (List ℕ)) (program : ProgramState) : Type 0 where
  pub hub : HubState ScriptState
  pub opens : Opens program limit hub
  pub refused : IfSome picks (λ list. IsTurnedAway Asks list hub ⊎ IsUncertified list program hub)

-- the recording's trace
abbrev pub trace_of : RecordingState → TraceState
trace_of r = record { decls = r.decls; events = r.events; spare = 0 }

-- it is a recording of a run of the program, and its trace has a text
pub record HasRun (limit : ℕ) (picks : Option (List ℕ)) (r : RecordingState) (program : ProgramState) : Type 0 where
  pub run : IsRunOf limit picks program r
  pub has_text : HasText (trace_of r)

-- the bytes are the text of a program of which this holds
pub record IsProgramWhere (Holds : ProgramState → Type 0) (bytes : List ℕ) : Type 0 where
  pub program : ProgramState
  pub text_is : IsTextOf program bytes
  pub holds : Holds program

-- the reply is right for the bytes
abbrev pub IsRun : ℕ → Option (List ℕ) → List ℕ → Reply RecordingState → Type 0
IsRun limit picks bytes (Reply.Faulty fault) = text_fault bytes ≡ Some fault
IsRun limit picks bytes (Reply.Found r) = IsProgramWhere (HasRun limit picks r) bytes
IsRun limit picks bytes _ = ⊥

-- the bytes are the text of a program of whose run there is no recording
abbrev pub IsUnrecorded : ℕ → Option (List ℕ) → List ℕ → Type 0
IsUnrecorded limit picks = IsProgramWhere (IsRefusedRun limit picks)

-- what is printed of a recording: its trace
abbrev pub run_text : RecordingState → List ℕ
run_text r = text (trace_of r)

-- the status of an end
abbrev pub status_of_end : End → ℕ
status_of_end End.Main = status.CLEAN
status_of_end End.Fault = status.FAILED
status_of_end End.Deadlock = status.DEADLOCK
status_of_end End.Limit = status.LIMIT
status_of_end (End.Bad g) = status.BAD_REQUEST

-- the status of a recording
abbrev pub run_status : RecordingState → ℕ
run_status r = status_of_end r.end

-- a program was run, with at most so many events, by these picks or without any by workers
abbrev pub Runs : {R W : Type 0} → ℕ → Option (List ℕ) → (R → Option (List ℕ)) → (W → Option (List ℕ)) → Source R → Source R → Sink W → Sink W → ℕ → Type 0
Runs limit picks remaining contents source source_now sink sink_now answer =
    Answers program_causes (IsRun limit picks) (reply_text run_text) (reply_status run_status) (IsUnrecorded limit picks)
    remaining contents source source_now sink sink_now answer
