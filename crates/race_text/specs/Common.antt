-- A line of a common word, read from the bytes from it on.
use Rattle.std.specs.Prelude.{◌≡◌, ℕ, ◌≤◌, Bool, true, false, not, List, [], ◌∷◌, ◌++◌, length, take, map, Option, Some}
use Rattle.std.specs.{Prelude.None, Borrow.Bor, List.list_all, Simd.Lanes.{chunk, mask_l}}
use Rattle.race_records.specs.declared.{event.{Event.Event, Op.Op}, kind.{Kind.Kind, Named.Named}, operands.Operand.Operand}
use Rattle.race_records.specs.declared.{operands.{OperandKind.OperandKind, OpKeyword.OpKeyword}, version.Version.Version}
use Rattle.race_records.specs.{Name.is_place_byte, Declarations.Declaration, Operands.{operand_kinds, has_two_places}}
use Rattle.race_text.specs.declared.{cause.TextCause.TextCause, common.{Deed.Deed, Said.Said}}
use Rattle.race_text.specs.{Words.{parts_of, words_of}, Form.{first_word, arguments}, Lines.GoesOn, Owed.owed}
use Rattle.race_text.specs.{Fault.{cause, trace_causes}, Reading.{Occurrence, occurrence, first_operand, operands_on, op_in}}
use Rattle.race_text.specs.Reading.{last_place, event_behind, event_in}

-- so many bytes in front are marked: a bit for each, which is set where the byte can't be seen
pub record IsMarked (marks : ℕ) (bytes : List ℕ) : Type 0 where
  pub count : ℕ
  pub few : count ≤ 64
  pub within : count ≤ length bytes
  pub marks_are : marks ≡ mask_l (map (λ b. not (is_place_byte b)) (chunk 0 count bytes))

-- the line in front, its words, and the parts of the text behind it
abbrev pub line_in : List ℕ → List ℕ
line_in bytes = first_word (parts_of bytes)

abbrev pub words_in : List ℕ → List (List ℕ)
words_in bytes = words_of (line_in bytes)

abbrev pub parts_behind : List ℕ → List (List ℕ)
parts_behind bytes = arguments (parts_of bytes)

-- the first word of the line is so long, and its other words stand in front of the rest
pub record CutsWord (bytes : List ℕ) (len : ℕ) (rest : List ℕ) : Type 0 where
  pub within : len ≤ length bytes
  pub is_seen : list_all is_place_byte (take len bytes) ≡ true
  pub words : words_in bytes ≡ take len bytes ∷ words_in rest
  pub behind : parts_behind bytes ≡ parts_behind rest

-- the line is an event of this word, which each version has, and what it says stands in front of the rest
pub record SaysKeyword (bytes : List ℕ) (keyword : OpKeyword) (rest : List ℕ) : Type 0 where
  pub says : (version : Version) (ds : List Declaration) → event_in version ds (words_in bytes) ≡ event_behind ds keyword (words_in rest)
  pub behind : parts_behind bytes ≡ parts_behind rest

-- an object is wanted
abbrev pub names_object : OperandKind → Bool
names_object (OperandKind.Object kind) = true
names_object OperandKind.RwMutex = true
names_object _ = false

-- of which kind the object is that stands behind the goroutine
abbrev pub object_kind : OpKeyword → OperandKind
object_kind OpKeyword.Read = OperandKind.Object Kind.Var
object_kind OpKeyword.Write = OperandKind.Object Kind.Var
object_kind OpKeyword.Send = OperandKind.Object Kind.Chan
object_kind OpKeyword.Recv = OperandKind.Object Kind.Chan
object_kind OpKeyword.Lock = OperandKind.Object Kind.Lock
object_kind OpKeyword.Unlock = OperandKind.Object Kind.Lock
object_kind OpKeyword.RLock = OperandKind.RwMutex
object_kind OpKeyword.RUnlock = OperandKind.RwMutex
object_kind OpKeyword.OnceDone = OperandKind.Object Kind.Once
object_kind _ = OperandKind.Value

-- the first word names an object of this kind
pub record SaysObject (ds : List Declaration) (kind : OperandKind) (bytes : List ℕ) (named : Named) (rest : List ℕ) : Type 0 where
  pub says : first_operand ds kind (words_in bytes) ≡ Some (Operand.Object named, words_in rest)
  pub behind : parts_behind bytes ≡ parts_behind rest

-- a value, where one is wanted
abbrev pub value_kinds : Bool → List OperandKind
value_kinds true = OperandKind.Value ∷ []
value_kinds false = []

abbrev pub value_operands : Option ℕ → List Operand
value_operands (Some v) = Operand.Value v ∷ []
value_operands None = []

pub record SaysValue (wanted : Bool) (bytes : List ℕ) (value : Option ℕ) (rest : List ℕ) : Type 0 where
  pub says : (ds : List Declaration) (operands : List Operand)
      → operands_on ds operands (value_kinds wanted) (words_in bytes) ≡ Some (operands ++ value_operands value, words_in rest)
  pub behind : parts_behind bytes ≡ parts_behind rest

-- the words in front of the rest say what an operation with one place does
pub record SaysDeed (ds : List Declaration) (keyword : OpKeyword) (bytes : List ℕ) (op : Op) (rest : List ℕ) : Type 0 where
  pub says : op_in ds keyword (operand_kinds keyword) (words_in bytes) ≡ Some (op, words_in rest)
  pub behind : parts_behind bytes ≡ parts_behind rest
  pub one_place : has_two_places keyword ≡ false

-- the one word that is left is a place, and a newline stands between it and the rest
pub record SaysPlace (bytes place rest : List ℕ) : Type 0 where
  pub says : last_place (words_in bytes) ≡ Some place
  pub behind : parts_behind bytes ≡ parts_of rest

-- the operation
abbrev pub op_of : Deed → Op
op_of (Deed.Read x v) = Op.Read x v
op_of (Deed.Write x v) = Op.Write x v
op_of (Deed.Send c v) = Op.Send c v
op_of (Deed.Recv c v) = Op.Recv c v
op_of (Deed.Lock l) = Op.Lock l
op_of (Deed.Unlock l) = Op.Unlock l
op_of (Deed.RLock l) = Op.RLock l
op_of (Deed.RUnlock l) = Op.RUnlock l
op_of (Deed.OnceDone o) = Op.OnceDone o

-- what a line says in the code stands for
abbrev pub said_of : Said → Occurrence
said_of said = occurrence said.who (op_of said.deed) (said.place.now, None)

-- an event with one place
abbrev pub event_at : ℕ → Op → ℕ → Event
event_at who op place = record { who = who; op = op; place = place; place2 = None }

-- a newline ends the line in front of the rest
abbrev pub EndsLine : List ℕ → List ℕ → Type 0
EndsLine bytes rest = parts_of bytes ≡ line_in bytes ∷ parts_of rest

-- the line says this event in each version
pub record SaysEvent (ds : List Declaration) (bytes : List ℕ) (o : Occurrence) (rest : List ℕ) : Type 0 where
  pub says : (version : Version) → event_in version ds (words_in bytes) ≡ Some o
  pub ends : EndsLine bytes rest

-- the lines go on with the one in front where the bytes behind it are told, and else they are the same
abbrev pub GoesOnIfTold : List (List ℕ) → List ℕ → Option (Bor (List ℕ)) → List (List ℕ) → Type 0
GoesOnIfTold before bytes (Some rest) after = EndsLine bytes rest.now × GoesOn trace_causes before (line_in bytes) after
GoesOnIfTold before bytes None after = after ≡ before

-- a newline ends the line, and what is owed by its least cause is told
pub record TellsOfCommon (before : List (List ℕ)) (bytes : List ℕ) (told : TextCause) : Type 0 where
  pub rest : List ℕ
  pub ends : EndsLine bytes rest
  pub least : told ≡ owed (cause before (line_in bytes) true)
