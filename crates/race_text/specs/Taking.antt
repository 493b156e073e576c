-- A line that is taken into a trace.
use Rattle.std.specs.Prelude.{◌≡◌, ℕ, ◌+◌, ◌*◌, ◌<◌, ◌≤◌, List, [], ◌∷◌, ◌++◌, length, slice_get, true, Option, Some, None}
use Rattle.std.specs.{Prelude.{is_some, IfSome, Result, Ok, Err}, Borrow.Bor, Option.option_map}
use Rattle.race_records.specs.declared.{event.Event.Event, kind.Kind.Kind, trace.TheConstants.MAX_EVENTS}
use Rattle.race_records.specs.{Name.is_place, Declarations.{DeclsState, count_of, place_number, with_place}}
use Rattle.race_records.specs.Events.{TraceState, op_fits, has_op, lock_fits, op_is_limited}
use Rattle.race_records.specs.Operands.{says, has_two_places}
use Rattle.race_text.specs.{declared.cause.TextCause.TextCause, Owed.owed, Text.{HasText, lines}, Fault.Seen}
use Rattle.race_text.specs.{Fault.{seen_so_far, seen, cause}, Reading.Occurrence, Common.{GoesOnIfTold, TellsOfCommon}}

-- what a trace says to the lines behind it
abbrev pub state_of : TraceState → Seen
state_of t = seen_so_far t.decls.declarations (length t.events)

-- its text counts, its lines say the same, and there is room for the places of as many events as a trace can have
pub record IsRead (t : TraceState) : Type 0 where
  pub has_text : HasText t
  pub seen_is : seen (lines t) ≡ state_of t
  pub few_places : length t.decls.places ≤ 2 * length t.events

-- the trace that these declarations begin
abbrev pub begun : DeclsState → TraceState
begun decls = record { decls = decls; events = []; spare = 0 }

-- the trace with these events before its own
abbrev pub behind : List Event → TraceState → TraceState
behind past t = record { decls = t.decls; events = past ++ t.events; spare = t.spare }

-- with so many events before its own it was read
pub record IsReadBehind (before : ℕ) (t : TraceState) : Type 0 where
  pub past : List Event
  pub count : length past ≡ before
  pub is_read : IsRead (behind past t)

-- the numbers of an event are declared, its operation is one of the version, its lock is an rwmutex where its operation wants
-- one, its places have a place's form, and there are two just where its operation wants two
pub record IsFitting (decls : DeclsState) (o : Occurrence) : Type 0 where
  pub place : is_place o.place ≡ true
  pub second : IfSome o.place2 (λ place. is_place place ≡ true)
  pub two : has_two_places (says o.op).0 ≡ is_some o.place2
  pub who : o.who < count_of Kind.Goroutine decls.declarations
  pub op : op_fits decls.declarations o.op ≡ true
  pub has : has_op decls.version o.op ≡ true
  pub lock : lock_fits decls.declarations o.op ≡ true
  pub value : op_is_limited o.op ≡ true

-- the places of the state, with a second one where there is one
abbrev pub second_places : DeclsState → Option (List ℕ) → List (List ℕ)
second_places decls None = decls.places
second_places decls (Some place) = (with_place decls place).places

-- the state with these
abbrev pub with_second : DeclsState → Option (List ℕ) → DeclsState
with_second decls place2 = record { version = decls.version; declarations = decls.declarations; places = second_places decls place2 }

-- the state with an event's places, one after the other
abbrev pub with_places : DeclsState → Occurrence → DeclsState
with_places decls o = with_second (with_place decls o.place) o.place2

-- the event, with the numbers that its places have or get: the second one where the first is in the table
abbrev pub event_of : DeclsState → Occurrence → Event
event_of decls o = record {
  who = o.who;
  op = o.op;
  place = place_number decls.places o.place;
  place2 = option_map (place_number (with_place decls o.place).places) o.place2;
}

-- a place that stands in the table stands there still, with its number
abbrev pub KeepsPlaces : List (List ℕ) → List (List ℕ) → Type 0
KeepsPlaces old new = (n : ℕ) (place : List ℕ) → slice_get old n ≡ Some place → slice_get new n ≡ Some place

-- the event is appended, with its places, behind the trace's and so many before these
pub record AppendsEvent (before : ℕ) (old new : TraceState) (o : Occurrence) : Type 0 where
  pub room : before + length old.events < MAX_EVENTS
  pub decls : new.decls ≡ with_places old.decls o
  pub events : new.events ≡ old.events ++ event_of old.decls o ∷ []

-- why an event that fits isn't appended: there are as many as a trace can have, and else memory is refused
pub record TellsOfRoom (before : ℕ) (old : TraceState) (told : TextCause) : Type 0 where
  pub full : MAX_EVENTS ≤ before + length old.events → told ≡ TextCause.TooMany
  pub room : before + length old.events < MAX_EVENTS → told ≡ TextCause.OutOfMemory

-- one more line, at which no cause holds
pub record TakesLine (before : List (List ℕ)) (line : List ℕ) (new : TraceState) : Type 0 where
  pub no_cause : cause before line true ≡ None
  pub lines : lines new ≡ before ++ line ∷ []
  pub is_read : IsRead new

-- the line is taken, or what is owed by its least cause is told
abbrev pub TakesOrTells : List (List ℕ) → List ℕ → Result Unit TextCause → TraceState → Type 0
TakesOrTells before line (Ok u) new = TakesLine before line new
TakesOrTells before line (Err told) new = told ≡ owed (cause before line true)

-- a common line is taken where the bytes behind it are told, and else nothing is; or what is owed by its least cause is told
abbrev pub TakesCommon : TraceState → List ℕ → Result (Option (Bor (List ℕ))) TextCause → TraceState → Type 0
TakesCommon old bytes (Ok rest) new = GoesOnIfTold (lines old) bytes rest (lines new) × IsRead new
TakesCommon old bytes (Err told) new = TellsOfCommon (lines old) bytes told
