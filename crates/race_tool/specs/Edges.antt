-- Which reply is right where the edges of a trace are asked for.
use Rattle.std.specs.Prelude.{ℕ, ◌≡◌, ◌≤◌, List, length, Some, Option}
use Rattle.race_records.specs.{declared.{source.Source.Source, sink.Sink.Sink}, Events.TraceState}
use Rattle.race_model.specs.Legal.{IsLegal}
use Rattle.race_text.specs.{Fault.{text_fault, trace_causes}, Text.IsTextOf}
use Rattle.race_edges.specs.{declared.fault.TheConstants.MAX_PLAIN_EVENTS, Edges.AreEdges}
use Rattle.race_verdict.specs.Traces.{capacities}
use Rattle.race_report.specs.Report.{edges_text}
use Rattle.race_tool.specs.{declared.{edges.Edges.Edges, reply.Reply.Reply}, Finding.IsTextWhere, Outcome.{Answers, Never}}
use Rattle.race_tool.specs.Reply.{IsTooLong, IsBrokenBy, reply_text, reply_status}
use Rattle.race_tool.specs.declared.status.TheConstants as status

-- the trace has no more events than are taken
abbrev pub IsShort : TraceState → Type 0
IsShort trace = length trace.events ≤ MAX_PLAIN_EVENTS

-- these are all edges of a legal trace
abbrev pub AreEdgesOf : {A : Type 0} → Edges A → Type 0
AreEdgesOf e = IsShort e.trace × IsLegal (capacities e.trace) e.trace.events × AreEdges (capacities e.trace) e.trace.events e.edges.items

-- the reply is right for the bytes
abbrev pub IsListing : {A : Type 0} → List ℕ → Reply (Edges A) → Type 0
IsListing bytes (Reply.Faulty fault) = text_fault bytes ≡ Some fault
IsListing bytes (Reply.TooLong events) = IsTextWhere (IsTooLong events) bytes
IsListing bytes (Reply.Broken illegal) = IsTextWhere (λ trace. IsShort trace × IsBrokenBy illegal trace) bytes
IsListing bytes (Reply.Found edges) = IsTextOf edges.trace bytes × AreEdgesOf edges
IsListing bytes Reply.NoRace = ⊥

-- what is printed of edges
abbrev pub listing_text : {A : Type 0} → Edges A → List ℕ
listing_text e = edges_text e.trace e.edges.items

-- and with which status
abbrev pub listing_status : {A : Type 0} → Edges A → ℕ
listing_status e = status.CLEAN

-- the edges of a trace were listed
abbrev pub Lists : (A : Type 0) → {R W : Type 0} → (R → Option (List ℕ)) → (W → Option (List ℕ)) → Source R → Source R → Sink W → Sink W → ℕ → Type 0
Lists A remaining contents source source_now sink sink_now answer =
    Answers trace_causes (IsListing {A = A}) (reply_text listing_text) (reply_status listing_status) Never
    remaining contents source source_now sink sink_now answer
