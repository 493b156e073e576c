-- Which events fit the declarations, and when a trace takes one.
use Rattle.std.specs.Prelude.{◌≡◌, ℕ, ◌≤◌, ◌&&◌, Bool, true, not, if◌then◌else◌, nat_lt, nat_le, List, length, Option}
use Rattle.std.specs.{Prelude.{Some, None, IsTrue, All}, List.list_all, Option.option_map_or}
use Rattle.race_records.specs.declared.{event.{Event.Event, Op.Op}, kind.Kind.Kind, trace.PushFault.PushFault}
use Rattle.race_records.specs.declared.trace.PushFault.TheVariants.{BadNumber, WrongKind, Full}
use Rattle.race_records.specs.declared.{trace.TheConstants.MAX_EVENTS, version.Version.Version}
use Rattle.race_records.specs.{Declarations.{Declaration, DeclsState, count_of, counts_of, is_rw}, Operands.says}
use Rattle.race_records.specs.Operands.{has_op_keyword, has_two_places, op_is_in_range, operand_is_limited, rwmutex_of}

-- the numbers that the operation names are declared, each of its kind
abbrev pub op_fits : List Declaration → Op → Bool
op_fits ds op = op_is_in_range (counts_of ds) op

-- of so many places the second one is one, and it is there just where there have to be two
abbrev pub second_place_fits : ℕ → Bool → Option ℕ → Bool
second_place_fits places two None = not two
second_place_fits places two (Some place) = two && nat_lt place places

-- all numbers of the event are in range, and it has a second place just where its operation wants one
abbrev pub is_in_range : DeclsState → Event → Bool
is_in_range decls e =
    nat_lt e.who (count_of Kind.Goroutine decls.declarations) && op_fits decls.declarations e.op
    && nat_lt e.place (length decls.places) && second_place_fits (length decls.places) (has_two_places (says e.op).0) e.place2

-- where the operation wants an rwmutex, its lock is one
abbrev pub lock_fits : List Declaration → Op → Bool
lock_fits ds op = option_map_or (is_rw ds) (rwmutex_of op) true

-- the version has the operation
abbrev pub has_op : Version → Op → Bool
has_op version op = has_op_keyword version (says op).0

-- the operation is one of the declarations' version, and its lock is an rwmutex where it wants one
abbrev pub is_right_kind : DeclsState → Op → Bool
is_right_kind decls op = has_op decls.version op && lock_fits decls.declarations op

-- all numbers of the event are in range, and it is of the right kind
unfoldable pub fits : DeclsState → Event → Bool
fits decls e = is_in_range decls e && is_right_kind decls e.op

-- each value of the operation is a u64, and it has at most 16 cases
abbrev pub op_is_limited : Op → Bool
op_is_limited op = list_all operand_is_limited (says op).1

-- a `Trace` as its callers see it. `spare` is for how many more events there is room
pub record TraceState : Type 0 where
  pub decls : DeclsState
  pub events : List Event
  pub spare : ℕ

-- why the event is refused: the first cause, in the order in which they are tested
unfoldable pub push_fault : TraceState → Event → Option PushFault
push_fault trace e =
    if not (is_in_range trace.decls e) then Some BadNumber
    else (if not (is_right_kind trace.decls e.op) then Some WrongKind
    else (if nat_le MAX_EVENTS (length trace.events) then Some Full else None))

-- what holds of every `Trace`: each event fits its declarations, each value is a u64, no event has too many cases, and there are not too many events
pub record IsTrace (trace : TraceState) : Type 0 where
  pub fit : All (λ e. IsTrue (fits trace.decls e)) trace.events
  pub values : All (λ e. IsTrue (op_is_limited e.op)) trace.events
  pub limited : length trace.events ≤ MAX_EVENTS

-- all but the spare room is as before
pub record IsUnchanged (old new : TraceState) : Type 0 where
  pub decls : new.decls ≡ old.decls
  pub events : new.events ≡ old.events
