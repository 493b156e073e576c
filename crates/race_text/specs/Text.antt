-- The text of a trace. It prints: nothing here reads.
use Rattle.std.specs.Prelude.{ℕ, true, false, List, [], ◌∷◌, ◌++◌, map, codes, slice_get, unwrap_or, Option, Some, None}
use Rattle.std.specs.{Prelude.◌≡◌, List.{flat_map, join_with_byte}, Fmt.decimal, Option.option_map}
use Rattle.race_records.specs.declared.event.{Event.Event, Op.{Op, TheVariants.{Go, Exit, Read, Write, Send, Recv}}}
use Rattle.race_records.specs.declared.event.Op.TheVariants.{Meet, RecvClosed, Close, Default, Lock, Unlock, RLock}
use Rattle.race_records.specs.declared.event.Op.TheVariants.{RUnlock, TryLock, TryRLock, TryFail, OnceBegin, OnceEnd}
use Rattle.race_records.specs.declared.event.{Op.TheVariants.{OnceDone, Fault}, Cause.{Cause, TheVariants.SendClosed}}
use Rattle.race_records.specs.declared.event.Cause.TheVariants.{CloseClosed, CloseNil, UnlockFree, RUnlockFree}
use Rattle.race_records.specs.declared.{cases.{Case.Case, Dir.Dir}, kind.{Named.Named, Object.Object}}
use Rattle.race_records.specs.{declared.version.Version.Version, Declarations.{Declaration, DeclsState, IsWellFormed}}
use Rattle.race_records.specs.{Declarations.name_of, Events.{TraceState, IsTrace}}

-- the first line, which says the version
abbrev pub header : Version → List ℕ
header Version.One = codes "gotrace 1"
header Version.Two = codes "gotrace 2"

-- words with single spaces between them
abbrev pub line_of : List (List ℕ) → List ℕ
line_of words = join_with_byte 32 words

-- the words of a declaration
abbrev pub object_words : List ℕ → Object → List (List ℕ)
object_words name Object.Goroutine = codes "goroutine" ∷ name ∷ []
object_words name Object.Var = codes "var" ∷ name ∷ []
object_words name (Object.Chan capacity) = codes "chan" ∷ name ∷ decimal capacity ∷ []
object_words name (Object.Lock false) = codes "mutex" ∷ name ∷ []
object_words name (Object.Lock true) = codes "rwmutex" ∷ name ∷ []
object_words name Object.Once = codes "once" ∷ name ∷ []

-- the line of a declaration
abbrev pub declaration_line : Declaration → List ℕ
declaration_line d = line_of (object_words d.name d.object)

-- the name by which a goroutine's number is printed
abbrev pub goroutine_name : List Declaration → ℕ → List ℕ
goroutine_name ds n = unwrap_or (name_of ds (Named.Goroutine n)) []

-- the name by which a variable's number is printed
abbrev pub var_name : List Declaration → ℕ → List ℕ
var_name ds n = unwrap_or (name_of ds (Named.Var n)) []

-- the name by which a channel's number is printed
abbrev pub chan_name : List Declaration → ℕ → List ℕ
chan_name ds n = unwrap_or (name_of ds (Named.Chan n)) []

-- the name by which a mutex's or an rwmutex's number is printed
abbrev pub lock_name : List Declaration → ℕ → List ℕ
lock_name ds n = unwrap_or (name_of ds (Named.Lock n)) []

-- the name by which a once's number is printed
abbrev pub once_name : List Declaration → ℕ → List ℕ
once_name ds n = unwrap_or (name_of ds (Named.Once n)) []

-- a channel, or nil
abbrev pub chan_text : List Declaration → Option ℕ → List ℕ
chan_text ds None = codes "nil"
chan_text ds (Some c) = chan_name ds c

-- what a case of a select would do
abbrev pub dir_text : Dir → List ℕ
dir_text Dir.Send = codes "send:"
dir_text Dir.Recv = codes "recv:"

-- and with its channel
abbrev pub case_text : List Declaration → Case → List ℕ
case_text ds case = dir_text case.dir ++ chan_text ds case.chan

-- pieces with commas between them, or a hyphen where there is none
abbrev pub pieces_text : {A : Type 0} → (A → List ℕ) → List A → List ℕ
pieces_text text [] = codes "-"
pieces_text text (piece ∷ pieces) = join_with_byte 44 (map text (piece ∷ pieces))

-- the cases of a select
abbrev pub cases_text : List Declaration → List Case → List ℕ
cases_text ds cases = pieces_text (case_text ds) cases

-- why a run failed
abbrev pub failure_text : List Declaration → Cause → List ℕ
failure_text ds (SendClosed c) = codes "send:" ++ chan_name ds c
failure_text ds (CloseClosed c) = codes "close:" ++ chan_name ds c
failure_text ds CloseNil = codes "close:nil"
failure_text ds (UnlockFree l) = codes "unlock:" ++ lock_name ds l
failure_text ds (RUnlockFree l) = codes "runlock:" ++ lock_name ds l

-- the place by which its number is printed
abbrev pub place_text : List (List ℕ) → ℕ → List ℕ
place_text places n = unwrap_or (slice_get places n) []

-- the second place, where there is one
abbrev pub second_text : List (List ℕ) → Option ℕ → Option (List ℕ)
second_text places place2 = option_map (place_text places) place2

-- the words of an event's places: the second one stands behind the first
abbrev pub place_words : List ℕ → Option (List ℕ) → List (List ℕ)
place_words place None = place ∷ []
place_words place (Some second) = place ∷ second ∷ []

-- the words of an event of this goroutine at these places
abbrev pub op_words : List Declaration → List ℕ → List (List ℕ) → Op → List (List ℕ)
op_words ds who places (Go h) = codes "go" ∷ who ∷ goroutine_name ds h ∷ places
op_words ds who places Exit = codes "exit" ∷ who ∷ places
op_words ds who places (Read x v) = codes "read" ∷ who ∷ var_name ds x ∷ decimal v ∷ places
op_words ds who places (Write x v) = codes "write" ∷ who ∷ var_name ds x ∷ decimal v ∷ places
op_words ds who places (Send c v) = codes "send" ∷ who ∷ chan_name ds c ∷ decimal v ∷ places
op_words ds who places (Recv c v) = codes "recv" ∷ who ∷ chan_name ds c ∷ decimal v ∷ places
op_words ds who places (Meet r c v) = codes "meet" ∷ who ∷ goroutine_name ds r ∷ chan_name ds c ∷ decimal v ∷ places
op_words ds who places (RecvClosed c) = codes "recvclosed" ∷ who ∷ chan_name ds c ∷ places
op_words ds who places (Close c) = codes "close" ∷ who ∷ chan_name ds c ∷ places
op_words ds who places (Default cases) = codes "default" ∷ who ∷ cases_text ds cases ∷ places
op_words ds who places (Lock l) = codes "lock" ∷ who ∷ lock_name ds l ∷ places
op_words ds who places (Unlock l) = codes "unlock" ∷ who ∷ lock_name ds l ∷ places
op_words ds who places (RLock l) = codes "rlock" ∷ who ∷ lock_name ds l ∷ places
op_words ds who places (RUnlock l) = codes "runlock" ∷ who ∷ lock_name ds l ∷ places
op_words ds who places (TryLock l) = codes "trylock" ∷ who ∷ lock_name ds l ∷ places
op_words ds who places (TryRLock l) = codes "tryrlock" ∷ who ∷ lock_name ds l ∷ places
op_words ds who places (TryFail l) = codes "tryfail" ∷ who ∷ lock_name ds l ∷ places
op_words ds who places (OnceBegin o) = codes "oncebegin" ∷ who ∷ once_name ds o ∷ places
op_words ds who places (OnceEnd o) = codes "onceend" ∷ who ∷ once_name ds o ∷ places
op_words ds who places (OnceDone o) = codes "oncedone" ∷ who ∷ once_name ds o ∷ places
op_words ds who places (Fault cause) = codes "fault" ∷ who ∷ failure_text ds cause ∷ places

-- the line of an event
abbrev pub event_line : DeclsState → Event → List ℕ
event_line decls e =
    line_of (op_words decls.declarations (goroutine_name decls.declarations e.who)
    (place_words (place_text decls.places e.place) (second_text decls.places e.place2)) e.op)

-- the header of its version, a line for each declaration and a line for each event
unfoldable pub lines : TraceState → List (List ℕ)
lines t = header t.decls.version ∷ map declaration_line t.decls.declarations ++ map (event_line t.decls) t.events

-- each line is ended by a newline
abbrev pub ended : List ℕ → List ℕ
ended line = line ++ 10 ∷ []

-- the text of a trace
unfoldable pub text : TraceState → List ℕ
text t = flat_map ended (lines t)

-- a trace whose text counts: its declarations are well formed, its events fit them, each value is a u64, no select has more
-- than 16 cases, and there are not too many events
pub record HasText (t : TraceState) : Type 0 where
  pub well_formed : IsWellFormed t.decls
  pub is_trace : IsTrace t

-- the bytes are the trace's text
pub record IsTextOf (t : TraceState) (bytes : List ℕ) : Type 0 where
  pub has_text : HasText t
  pub printed : bytes ≡ text t

-- the bytes are some trace's text
abbrev pub IsTraceText : List ℕ → Type 0
IsTraceText bytes = (t : TraceState) × IsTextOf t bytes
