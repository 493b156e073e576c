-- What an engine replies to the bytes that it read: what was found, or why there is nothing; what is printed of it, and with which status.
use Rattle.std.specs.Prelude.{ℕ, ◌≡◌, ◌<◌, List, length, ⊤}
use Rattle.race_records.specs.Events.{TraceState}
use Rattle.race_model.specs.Legal.{IsIllegalAt}
use Rattle.race_legal.specs.{declared.legality.Illegal.Illegal, Rules.number_of}
use Rattle.race_edges.specs.declared.fault.TheConstants.{MAX_PLAIN_EVENTS}
use Rattle.race_verdict.specs.Traces.{capacities}
use Rattle.race_report.specs.Report.{fault_line, illegal_line}
use Rattle.race_tool.specs.{declared.reply.Reply.Reply, Report.{too_long_line, no_race_line}}
use Rattle.race_tool.specs.declared.status.TheConstants as status

-- the trace has so many events, more than are taken
abbrev pub IsTooLong : ℕ → TraceState → Type 0
IsTooLong events trace = (length trace.events ≡ events) × (MAX_PLAIN_EVENTS < events)

-- this event of the trace breaks this rule, and none before it breaks one
abbrev pub IsBrokenBy : Illegal → TraceState → Type 0
IsBrokenBy illegal trace = IsIllegalAt (capacities trace) trace.events illegal.at (number_of illegal.rule)

module _ {F : Type 0} where
  -- this holds of what was found, if something was
  abbrev pub IfFound : (F → Type 0) → Reply F → Type 0
  IfFound Holds (Reply.Found found) = Holds found
  IfFound Holds _ = ⊤

  -- what is printed, by the text of what was found
  abbrev pub reply_text : (F → List ℕ) → Reply F → List ℕ
  reply_text text (Reply.Faulty fault) = fault_line fault
  reply_text text (Reply.TooLong events) = too_long_line events
  reply_text text (Reply.Broken illegal) = illegal_line illegal.at (number_of illegal.rule)
  reply_text text Reply.NoRace = no_race_line
  reply_text text (Reply.Found found) = text found

  -- the status, by that of what was found
  abbrev pub reply_status : (F → ℕ) → Reply F → ℕ
  reply_status status_for (Reply.Faulty fault) = status.TEXT_FAULT
  reply_status status_for (Reply.TooLong events) = status.USAGE
  reply_status status_for (Reply.Broken illegal) = status.ILLEGAL
  reply_status status_for Reply.NoRace = status.NO_RACE
  reply_status status_for (Reply.Found found) = status_for found
