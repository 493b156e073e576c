-- What a stream of events has read: the lines of a trace of which the first events were handed on.
use Rattle.std.specs.Prelude.{◌≡◌, ℕ, Bool, IsTrue, List, [], ◌++◌, length, Option, Some, None, IfSome}
use Rattle.std.specs.List.{flat_map}
use Rattle.std.specs.Option.{option_map, is_some}
use Rattle.race_records.specs.{declared.event.Event.Event, Declarations.{Declaration, DeclsState}, Events.TraceState}
use Rattle.race_text.specs.{declared.stream.EventStream.EventStream, Text.{IsTextOf, ended}, Fault.trace_causes}
use Rattle.race_text.specs.{Taking.{behind, KeepsPlaces}, Reader.{IsReading, lines_read, trace_read}}

module _ {A : Type 0} where
  -- the trace that was read, if these events were handed on
  abbrev pub trace_with : List Event → EventStream A → TraceState
  trace_with past s = trace_read s.reader.decls (option_map (behind past) s.reader.trace)

  -- its declarations
  abbrev pub decls_of : EventStream A → DeclsState
  decls_of s = (trace_with [] s).decls

  -- those of its events that weren't handed on
  abbrev pub events_of : EventStream A → List Event
  events_of s = (trace_with [] s).events

  -- an event was read
  abbrev pub has_events : EventStream A → Bool
  has_events s = is_some s.reader.trace

  -- behind an event nothing is declared, and places keep their numbers
  pub record DeclaresNothing (old new : EventStream A) : Type 0 where
    pub stays : IsTrue (has_events old) → IsTrue (has_events new)
    pub same : IsTrue (has_events old) → (decls_of new).declarations ≡ (decls_of old).declarations
    pub places : IsTrue (has_events old) → KeepsPlaces (decls_of old).places (decls_of new).places

  -- the stream took these lines, and handed on these events
  pub record StandsWith (s : EventStream A) (past : List Event) (lines : List (List ℕ)) : Type 0 where
    pub handed_on : length past ≡ s.before
    pub none_before : s.reader.trace ≡ None → s.before ≡ 0
    pub reading : IsReading s.reader.has_header s.reader.decls (option_map (behind past) s.reader.trace)
    pub lines_are : lines ≡ lines_read s.reader.has_header s.reader.decls (option_map (behind past) s.reader.trace)

  -- it took some lines, and handed on some events
  pub record StandsForSome (s : EventStream A) : Type 0 where
    pub past : List Event
    pub lines : List (List ℕ)
    pub stands : StandsWith s past lines

  -- where no cause holds at the end of its lines, these bytes behind them, they are the text of the trace
  abbrev pub IsTextAtEnd : EventStream A → List ℕ → Type 0
  IsTextAtEnd s last = (past : List Event) (lines : List (List ℕ)) → StandsWith s past lines
      → trace_causes.end lines last ≡ None → IsTextOf (trace_with past s) (flat_map ended lines ++ last)

-- what is known of a stream besides its lines: the events that were handed on, the declarations once an event stands there, and
-- places that were met
pub record Known : Type 0 where
  pub past : List Event
  pub declared : Option (List Declaration)
  pub places : List (List ℕ)

-- there is an event, this was declared before it, and these places have their numbers
pub record HasDeclared {A : Type 0} (places : List (List ℕ)) (s : EventStream A) (declared : List Declaration) : Type 0 where
  pub event : IsTrue (has_events s)
  pub same : (decls_of s).declarations ≡ declared
  pub kept : KeepsPlaces places (decls_of s).places

-- the stream took these lines, and this is known of it
pub record StandsFor {A : Type 0} (k : Known) (s : EventStream A) (lines : List (List ℕ)) : Type 0 where
  pub stream : StandsWith s k.past lines
  pub declared : IfSome k.declared (HasDeclared k.places s)

-- all that can be known of its declarations and places
abbrev pub known_now : {A : Type 0} → Known → EventStream A → Known
known_now k s = record { past = k.past; declared = Some (decls_of s).declarations; places = (decls_of s).places }

-- the bytes are the text of the trace with the events that were handed on
pub record IsTextOfStream {A : Type 0} (k : Known) (s : EventStream A) (bytes : List ℕ) : Type 0 where
  pub lines : List (List ℕ)
  pub stands : StandsFor k s lines
  pub text : IsTextOf (trace_with k.past s) bytes
