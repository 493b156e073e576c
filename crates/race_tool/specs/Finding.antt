-- What a check finds of a list of bytes, what it prints of it, and with which status.
use Rattle.std.specs.Prelude.{ℕ, ◌≡◌, ◌<◌, ◌≤◌, Bool, IsTrue, List, length, Option, Some, None}
use Rattle.race_records.specs.{declared.{source.Source.Source, sink.Sink.Sink}, Devices.unread, Events.TraceState}
use Rattle.race_model.specs.Verdict.{Verdict, Illegal, Clean, Races}
use Rattle.race_text.specs.{declared.cause.TextFault.TextFault, Fault.{text_fault, trace_causes}, Text.IsTextOf}
use Rattle.race_edges.specs.declared.fault.TheConstants.{MAX_PLAIN_EVENTS}
use Rattle.race_verdict.specs.Traces.{HasVerdict, IsClean, IsRacy, IsIllegal}
use Rattle.race_report.specs.Report.{fault_line, report}
use Rattle.race_tool.specs.{Outcome.{Answers, Never, ReadsWhere}, Report.too_long_line}
use Rattle.race_tool.specs.declared.status.TheConstants as status

-- what there is to say of a list of bytes
pub data Finding : Type 0 where
  -- it is the text of no trace: its first line at fault, with the least cause
  Faulty : (fault : TextFault) → Finding
  -- it is the text of a trace of so many events, more than the plain judge takes
  TooLong : (events : ℕ) → Finding
  -- it is the text of this trace, with this verdict
  Judged : (trace : TraceState) (verdict : Verdict) → Finding

-- the verdict is right for the trace; there is none where the plain judge is wanted and the trace is too long for it
abbrev pub IsVerdictOn : Bool → TraceState → Option Verdict → Type 0
IsVerdictOn plain trace None = IsTrue plain × (MAX_PLAIN_EVENTS < length trace.events)
IsVerdictOn plain trace (Some verdict) = (IsTrue plain → length trace.events ≤ MAX_PLAIN_EVENTS) × HasVerdict trace verdict

-- the finding is right for the bytes, where the plain judge is wanted or not
abbrev pub IsFinding : Bool → List ℕ → Finding → Type 0
IsFinding plain bytes (Faulty fault) = text_fault bytes ≡ Some fault
IsFinding plain bytes (TooLong events) =
    IsTrue plain × ((trace : TraceState) × IsTextOf trace bytes × (length trace.events ≡ events) × (MAX_PLAIN_EVENTS < events))
IsFinding plain bytes (Judged trace verdict) =
    IsTextOf trace bytes × (IsTrue plain → length trace.events ≤ MAX_PLAIN_EVENTS) × HasVerdict trace verdict

-- what is printed
abbrev pub report_of : Finding → List ℕ
report_of (Faulty fault) = fault_line fault
report_of (TooLong events) = too_long_line events
report_of (Judged trace verdict) = report trace verdict

-- the status
abbrev pub status_of_verdict : Verdict → ℕ
status_of_verdict (Illegal index rule) = status.ILLEGAL
status_of_verdict Clean = status.CLEAN
status_of_verdict (Races races) = status.RACES

abbrev pub status_of : Finding → ℕ
status_of (Faulty fault) = status.TEXT_FAULT
status_of (TooLong events) = status.USAGE
status_of (Judged trace verdict) = status_of_verdict verdict

-- the bytes are the text of a trace of which this holds
pub record IsTextWhere (Holds : TraceState → Type 0) (bytes : List ℕ) : Type 0 where
  pub trace : TraceState
  pub text : IsTextOf trace bytes
  pub holds : Holds trace

-- a trace was checked, by the plain judge or not. With CLEAN it is legal and without a data race, and what a read finds doesn't depend on how
-- unordered accesses happened to be interleaved; with RACES it is legal and has one; with ILLEGAL an event of it breaks a rule
pub record Checks {R W : Type 0} (plain : Bool) (remaining : R → Option (List ℕ)) (contents : W → Option (List ℕ))
    (source source_now : Source R) (sink sink_now : Sink W) (answer : ℕ) : Type 0 where
  pub answers : Answers trace_causes (IsFinding plain) report_of status_of Never remaining contents source source_now sink sink_now answer
  pub clean : answer ≡ status.CLEAN → ReadsWhere (IsTextWhere IsClean) (unread remaining source) (unread remaining source_now)
  pub races : answer ≡ status.RACES → ReadsWhere (IsTextWhere IsRacy) (unread remaining source) (unread remaining source_now)
  pub illegal : answer ≡ status.ILLEGAL → ReadsWhere (IsTextWhere IsIllegal) (unread remaining source) (unread remaining source_now)
