-- Which reply is right where a program is run and the run is judged.
use Rattle.std.specs.Prelude.{ℕ, ◌≡◌, ◌≢◌, ◌++◌, ◌≤◌, Bool, IsTrue, List, length, Option, Some}
use Rattle.race_records.specs.{declared.{source.Source.Source, sink.Sink.Sink}, Devices.unread, Events.TraceState}
use Rattle.race_model.specs.Verdict.{Verdict, Illegal, Clean, Races}
use Rattle.race_edges.specs.declared.fault.TheConstants.{MAX_PLAIN_EVENTS}
use Rattle.race_verdict.specs.{declared.{verdict.{Verdict.{Verdict as Found}}}, Verdicts.verdict_of}
use Rattle.race_verdict.specs.Traces.{HasVerdict, IsClean, IsRacy}
use Rattle.race_hub.specs.{declared.ending.End.End, Recording.RecordingState}
use Rattle.race_script.specs.{Fault.{text_fault, program_causes}, Program.ProgramState}
use Rattle.race_report.specs.{Printable.RacesAreOf, Report.report}
use Rattle.race_tool.specs.{declared.{race.JudgedRun.JudgedRun, reply.Reply.Reply}, Outcome.{Answers, ReadsWhere}}
use Rattle.race_tool.specs.{Reply.{IsTooLong, reply_text, reply_status}, Report.end_line}
use Rattle.race_tool.specs.Run.{trace_of, HasRun, IsProgramWhere, IsUnrecorded, status_of_end}
use Rattle.race_tool.specs.declared.status.TheConstants as status

-- the recording's trace has so many events, more than the plain judge takes
abbrev pub IsTooLongRun : ℕ → Option (List ℕ) → ℕ → ProgramState → Type 0
IsTooLongRun limit picks events program = (r : RecordingState) × HasRun limit picks r program × IsTooLong events (trace_of r)

-- the verdict is right for the recording's trace, where the plain judge is wanted or not
pub record IsJudged {A : Type 0} (plain : Bool) (judged : JudgedRun A) : Type 0 where
  pub short : IsTrue plain → length judged.recording.events ≤ MAX_PLAIN_EVENTS
  pub right : HasVerdict (trace_of judged.recording) (verdict_of judged.verdict)

-- the reply is right for the bytes, where the plain judge is wanted or not
abbrev pub IsJudgedRun : {A : Type 0} → ℕ → Option (List ℕ) → Bool → List ℕ → Reply (JudgedRun A) → Type 0
IsJudgedRun limit picks plain bytes (Reply.Faulty fault) = text_fault bytes ≡ Some fault
IsJudgedRun limit picks plain bytes (Reply.TooLong events) = IsTrue plain × IsProgramWhere (IsTooLongRun limit picks events) bytes
IsJudgedRun limit picks plain bytes (Reply.Found judged) = IsProgramWhere (HasRun limit picks judged.recording) bytes × IsJudged plain judged
IsJudgedRun limit picks plain bytes _ = ⊥

-- what is printed of a judged run: the report of its trace, and how it ended
abbrev pub judged_text : {A : Type 0} → JudgedRun A → List ℕ
judged_text judged =
    report (trace_of judged.recording) (verdict_of judged.verdict) ++ end_line judged.recording.decls.declarations judged.recording.end

-- the status: there are races, or else how the run ended
abbrev pub status_of_verdict : End → Verdict → ℕ
status_of_verdict end (Races races) = status.RACES
status_of_verdict end (Illegal index rule) = status.ILLEGAL
status_of_verdict end Clean = status_of_end end

abbrev pub judged_status : {A : Type 0} → JudgedRun A → ℕ
judged_status judged = status_of_verdict judged.recording.end (verdict_of judged.verdict)

-- the races of the verdict are of the recording's trace
abbrev pub RacesAreOfRun : {A : Type 0} → RecordingState → Found A → Type 0
RacesAreOfRun r verdict = (trace : TraceState) → trace.decls ≡ r.decls → trace.events ≡ r.events → RacesAreOf trace verdict

-- a run of the program, by the picks if there are any, has a trace of which this holds
pub record HasRunWhere (limit : ℕ) (picks : Option (List ℕ)) (Holds : TraceState → Type 0) (program : ProgramState) : Type 0 where
  pub recording : RecordingState
  pub run : HasRun limit picks recording program
  pub holds : Holds (trace_of recording)

-- a program was run, and the run was judged, by the plain judge or not. No event of a run breaks a rule. With CLEAN a run (by the picks, if there
-- are any) has no data race (that main returned in it, `answers` says); with RACES one has
pub record Judges (A : Type 0) {R W : Type 0} (limit : ℕ) (picks : Option (List ℕ)) (plain : Bool) (remaining : R → Option (List ℕ))
    (contents : W → Option (List ℕ)) (source source_now : Source R) (sink sink_now : Sink W) (answer : ℕ) : Type 0 where
  pub answers : Answers program_causes (IsJudgedRun {A = A} limit picks plain) (reply_text judged_text) (reply_status judged_status)
      (IsUnrecorded limit picks) remaining contents source source_now sink sink_now answer
  pub legal : answer ≢ status.ILLEGAL
  pub clean : answer ≡ status.CLEAN
      → ReadsWhere (IsProgramWhere (HasRunWhere limit picks IsClean)) (unread remaining source) (unread remaining source_now)
  pub races : answer ≡ status.RACES
      → ReadsWhere (IsProgramWhere (HasRunWhere limit picks IsRacy)) (unread remaining source) (unread remaining source_now)
