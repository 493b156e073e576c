-- What the words of a line say of an event, one word after another.
use Rattle.std.specs.Prelude.{ℕ, Bool, true, false, List, [], ◌∷◌, ◌++◌, if◌then◌else◌, Option, Some, None}
use Rattle.std.specs.{Borrow.Bor, Option.{option_and_then, option_map}, Result.result_ok}
use Rattle.arrayvec.specs.ArrayVec.{ArrayVec}
use Rattle.race_records.specs.declared.{event.Op.Op, kind.{Kind.Kind, Named.Named}, operands.Operand.Operand}
use Rattle.race_records.specs.{declared.{operands.{OperandKind.OperandKind, OpKeyword.OpKeyword}, version.Version.Version}, Name.is_place}
use Rattle.race_records.specs.{Declarations.Declaration, Operands.{op_by, operand_kinds, has_two_places}}
use Rattle.race_text.specs.{declared.{event.Draft.Draft, form.Word.Word}, Words.parts_left, Form.word_in}
use Rattle.race_text.specs.Meaning.{operand_in}

-- an event with its places as they are spelled
pub record Occurrence : Type 0 where
  pub who : ℕ
  pub op : Op
  pub place : List ℕ
  pub place2 : Option (List ℕ)

-- the places of an event: a first one, and a second where there is one
abbrev pub Places : Type 0
Places = List ℕ × Option (List ℕ)

-- an event by its operands
abbrev pub occurrence : ℕ → Op → Places → Occurrence
occurrence who op places = record { who = who; op = op; place = places.0; place2 = places.1 }

-- what places in the code stand for
abbrev pub places_read : Bor (List ℕ) × Option (Bor (List ℕ)) → Places
places_read places = (places.0.now, option_map (λ place. place.now) places.1)

-- what a draft in the code stands for
abbrev pub drafted : Draft → Occurrence
drafted draft = occurrence draft.who draft.op (places_read (draft.place, draft.place2))

-- an operand that was read, and the words behind it
abbrev pub ReadOperand : Type 0
ReadOperand = Operand × List (List ℕ)

-- operands that were read, and the words behind them
abbrev pub ReadOperands : Type 0
ReadOperands = List Operand × List (List ℕ)

-- an operand, before the words that are left
abbrev pub with_rest : List (List ℕ) → Operand → ReadOperand
with_rest rest operand = (operand, rest)

-- an operand, or operands, before what is left of the line in the code
abbrev pub operand_so_far : Operand × Option (Bor (List ℕ)) → ReadOperand
operand_so_far step = (step.0, parts_left 32 step.1)

abbrev pub operands_so_far : ArrayVec Operand × Option (Bor (List ℕ)) → ReadOperands
operands_so_far step = (step.0.items, parts_left 32 step.1)

-- the first word as an operand
abbrev pub first_operand : List Declaration → OperandKind → List (List ℕ) → Option ReadOperand
first_operand ds kind [] = None
first_operand ds kind (w ∷ ws) = option_map (with_rest ws) (result_ok (operand_in ds kind w))

-- the operands so far, and behind them an operand for each of these kinds
abbrev pub operands_on : List Declaration → List Operand → List OperandKind → List (List ℕ) → Option ReadOperands
operands_on ds operands [] words = Some (operands, words)
operands_on ds operands (kind ∷ kinds) words = option_and_then (λ first. operands_on ds (operands ++ first.0 ∷ []) kinds first.1) (first_operand ds kind words)

-- the number of a goroutine
abbrev pub goroutine_of : Operand → Option ℕ
goroutine_of (Operand.Object (Named.Goroutine n)) = Some n
goroutine_of _ = None

-- a place, and the words behind it
abbrev pub ReadPlace : Type 0
ReadPlace = List ℕ × List (List ℕ)

abbrev pub place_so_far : Bor (List ℕ) × Option (Bor (List ℕ)) → ReadPlace
place_so_far step = (step.0.now, parts_left 32 step.1)

-- the first word, which is a place, and the words behind it
abbrev pub first_place : List (List ℕ) → Option ReadPlace
first_place [] = None
first_place (w ∷ ws) = if is_place w then Some (w, ws) else None

-- the place, where no word is left behind it
abbrev pub with_no_rest : ReadPlace → Option (List ℕ)
with_no_rest (place, []) = Some place
with_no_rest (place, w ∷ ws) = None

-- the one word that is left, which is a place
abbrev pub last_place : List (List ℕ) → Option (List ℕ)
last_place words = option_and_then with_no_rest (first_place words)

-- one place, or a first and a second
abbrev pub alone : List ℕ → Places
alone place = (place, None)

abbrev pub before_second : List ℕ → List ℕ → Places
before_second place second = (place, Some second)

-- the words that are left, which are a place, or two
abbrev pub last_places : Bool → List (List ℕ) → Option Places
last_places false words = option_map alone (last_place words)
last_places true words = option_and_then (λ first. option_map (before_second first.0) (last_place first.1)) (first_place words)

-- an operation, and the words behind it
abbrev pub ReadOp : Type 0
ReadOp = Op × List (List ℕ)

abbrev pub op_so_far : Op × Option (Bor (List ℕ)) → ReadOp
op_so_far step = (step.0, parts_left 32 step.1)

abbrev pub op_before : List (List ℕ) → Op → ReadOp
op_before rest op = (op, rest)

-- the operation of the word whose operands are of these kinds, as the first words say it
abbrev pub op_in : List Declaration → OpKeyword → List OperandKind → List (List ℕ) → Option ReadOp
op_in ds keyword kinds words = option_and_then (λ operands. option_map (op_before operands.1) (op_by keyword operands.0)) (operands_on ds [] kinds words)

-- what the words behind the goroutine say
abbrev pub event_of : List Declaration → OpKeyword → ℕ → List (List ℕ) → Option Occurrence
event_of ds keyword who words =
    option_and_then (λ read. option_map (occurrence who read.0) (last_places (has_two_places keyword) read.1))
    (op_in ds keyword (operand_kinds keyword) words)

-- what the words behind the word of an operation say
abbrev pub event_behind : List Declaration → OpKeyword → List (List ℕ) → Option Occurrence
event_behind ds keyword words =
    option_and_then (λ first. option_and_then (λ who. event_of ds keyword who first.1) (goroutine_of first.0))
    (first_operand ds (OperandKind.Object Kind.Goroutine) words)

-- what the words behind a first word say
abbrev pub event_by : List Declaration → Option Word → List (List ℕ) → Option Occurrence
event_by ds None words = None
event_by ds (Some (Word.Declares object)) words = None
event_by ds (Some (Word.Does keyword)) words = event_behind ds keyword words

-- what a line says, by its words, in a text of this version
abbrev pub event_in : Version → List Declaration → List (List ℕ) → Option Occurrence
event_in version ds [] = None
event_in version ds (first ∷ words) = event_by ds (word_in version first) words
