-- What one word of a line says, or the least cause that it says nothing.
use Rattle.std.specs.Prelude.{ℕ, ◌-◌, ◌^◌, not, nat_le, List, [], ◌∷◌, ◌++◌, length, fold, if◌then◌else◌, Option, Some}
use Rattle.std.specs.{Prelude.{None, ok_or, Result, Ok, Err}, Str.bytes_eq}
use Rattle.race_records.specs.declared.{cases.{Case.Case, Dir.Dir, TheConstants.MAX_CASES}, event.Cause.Cause}
use Rattle.race_records.specs.declared.{kind.{Kind.Kind, Named.Named}, operands.{Operand.Operand, OperandKind.OperandKind}}
use Rattle.race_records.specs.{Name.{is_name, is_place}, Declarations.{Declaration, find_name, number_of}}
use Rattle.race_text.specs.{declared.cause.TextCause.TextCause, Words.number, Form.is_wanted}
use Rattle.race_text.specs.{Least.{then_says, says_by, both_say}, Select.{no_cases, nil, close_nil, pieces_of}}
use Rattle.race_text.specs.Select.{SpelledCase, case_spelled, SpelledFailure, failure_spelled, kind_tried, cause_by}

-- a number of at most this limit
abbrev pub number_in : ℕ → List ℕ → Result ℕ TextCause
number_in limit w = ok_or (number limit w) TextCause.BadNumber

-- a value
abbrev pub value_in : List ℕ → Result ℕ TextCause
value_in w = number_in (2 ^ 64 - 1) w

-- this object, where it is of the kind that is wanted
abbrev pub as_wanted : List Declaration → OperandKind → Named → Result Named TextCause
as_wanted ds kind named = if is_wanted ds kind named then Ok named else Err TextCause.WrongKind

-- what is declared by the name
abbrev pub named_in : List Declaration → OperandKind → List ℕ → Result Named TextCause
named_in ds kind w =
    if not (is_name w) then Err TextCause.BadName else then_says (as_wanted ds kind) (ok_or (find_name ds w) TextCause.Unknown)

-- a name as a channel
abbrev pub chan_of : Named → Option ℕ
chan_of named = Some (number_of named)

-- a channel, or nil
abbrev pub chan_in : List Declaration → List ℕ → Result (Option ℕ) TextCause
chan_in ds w = if bytes_eq w nil then Ok None else says_by chan_of (named_in ds (OperandKind.Object Kind.Chan) w)

-- what is said so far with one more behind it, where there is room for it
abbrev pub with_piece : {A : Type 0} → List A → A → Result (List A) TextCause
with_piece got piece = if nat_le MAX_CASES (length got) then Err TextCause.TooMany else Ok (got ++ piece ∷ [])

-- and with what each of these pieces says, by what one says
abbrev pub pieces_on : {A : Type 0} → (List ℕ → Result A TextCause) → Result (List A) TextCause → List (List ℕ) → Result (List A) TextCause
pieces_on says got pieces = fold (λ got piece. both_say with_piece got (says piece)) got pieces

-- a word of pieces, or a hyphen where there is none
abbrev pub pieces_in : {A : Type 0} → (List ℕ → Result A TextCause) → List ℕ → Result (List A) TextCause
pieces_in says w = if bytes_eq w no_cases then Ok [] else pieces_on says (Ok []) (pieces_of w)

-- a case that would do this with the channel
abbrev pub case_with : Dir → Option ℕ → Case
case_with dir chan = record { dir = dir; chan = chan }

abbrev pub spelled_case_in : List Declaration → SpelledCase → Result Case TextCause
spelled_case_in ds case = says_by (case_with case.0) (chan_in ds case.1)

-- one case of a select
abbrev pub case_in : List Declaration → List ℕ → Result Case TextCause
case_in ds piece = then_says (spelled_case_in ds) (ok_or (case_spelled piece) TextCause.BadName)

-- its cases
abbrev pub cases_in : List Declaration → List ℕ → Result (List Case) TextCause
cases_in ds w = pieces_in (case_in ds) w

-- the failure that is spelled so, where its name is of the kind that is wanted
abbrev pub spelled_failure_in : List Declaration → SpelledFailure → Result Cause TextCause
spelled_failure_in ds failure = says_by (cause_by failure.0) (named_in ds (kind_tried failure.0) failure.1)

-- why a run failed
abbrev pub failure_in : List Declaration → List ℕ → Result Cause TextCause
failure_in ds w =
    if bytes_eq w close_nil then Ok Cause.CloseNil else then_says (spelled_failure_in ds) (ok_or (failure_spelled w) TextCause.BadName)

-- a place in the source
abbrev pub place_in : List ℕ → Result (List ℕ) TextCause
place_in w = if is_place w then Ok w else Err TextCause.BadName

-- an operand of this kind
abbrev pub operand_in : List Declaration → OperandKind → List ℕ → Result Operand TextCause
operand_in ds (OperandKind.Object kind) w = says_by Operand.Object (named_in ds (OperandKind.Object kind) w)
operand_in ds OperandKind.RwMutex w = says_by Operand.Object (named_in ds OperandKind.RwMutex w)
operand_in ds OperandKind.Value w = says_by Operand.Value (value_in w)
operand_in ds OperandKind.Cases w = says_by Operand.Cases (cases_in ds w)
operand_in ds OperandKind.Cause w = says_by Operand.Cause (failure_in ds w)
