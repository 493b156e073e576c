-- The first fault of a trace's text: the first line at which a cause holds, and the least cause that holds there.
use Rattle.std.specs.Prelude.{ℕ, ◌==◌, ◌&&◌, Bool, true, false, not, if◌then◌else◌, nat_le, nat_lt, List, [], ◌∷◌}
use Rattle.std.specs.{Prelude.{length, count_by, fold, Option, Some, None, is_some, is_none}, List.{filter_map, zip}}
use Rattle.std.specs.{Option.{option_and_then, option_map}, Result.result_err, Str.{bytes_eq, Parse.digits_value}}
use Rattle.race_records.specs.declared.{kind.{Kind.Kind, Object.Object}, trace.TheConstants.MAX_EVENTS}
use Rattle.race_records.specs.{declared.version.Version.Version, Name.is_name, Declarations.{Declaration, find_name}}
use Rattle.race_records.specs.{Declarations.{count_of, limit_of}, DeclKeywords.object_by}
use Rattle.race_text.specs.declared.{cause.{TextCause.TextCause, TextFault.TextFault}, form.{Word.Word, Field.Field}}
use Rattle.race_text.specs.{Words.{words_of, has_bad_byte}, Lines.{Causes, first_fault}, Text.header, Form.word_named}
use Rattle.race_text.specs.{Form.{word_in, fields_of, kind_declared, first_word, arguments}, Least.lesser}
use Rattle.race_text.specs.Meaning.{number_in, place_in, operand_in}

-- a later cause, looked at where no earlier one holds
abbrev pub or_else : Option TextCause → Option TextCause → Option TextCause
or_else None later = later
or_else (Some cause) later = Some cause

-- what the lines before say: what they declare, and how many events they are
pub record Seen : Type 0 where
  pub declarations : List Declaration
  pub events : ℕ

-- so many declarations, and so many events
abbrev pub seen_so_far : List Declaration → ℕ → Seen
seen_so_far ds events = record { declarations = ds; events = events }

-- a name with what it is declared as
abbrev pub declaration : List ℕ → Object → Declaration
declaration name object = record { name = name; object = object }

-- the number that stands behind a name, read as digits
abbrev pub number_behind : List (List ℕ) → Option ℕ
number_behind [] = None
number_behind (w ∷ others) = Some (digits_value 10 w)

-- what the words of a line declare, by the first one and the others
abbrev pub declared_as : Option Word → List (List ℕ) → Option Declaration
declared_as (Some (Word.Declares keyword)) (name ∷ others) = option_map (declaration name) (object_by keyword (number_behind others))
declared_as _ _ = None

-- what a line declares, where its first word declares anything
abbrev pub declaration_in : List ℕ → Option Declaration
declaration_in line = declared_as (word_named (first_word (words_of line))) (arguments (words_of line))

-- the first word is one of an event
abbrev pub is_event_word : Option Word → Bool
is_event_word None = false
is_event_word (Some word) = is_none (kind_declared word)

-- a line that is an event
abbrev pub is_event_line : List ℕ → Bool
is_event_line line = is_event_word (word_named (first_word (words_of line)))

-- what the lines before say together. Each is looked at alone, whether it is at fault or not, as one that begins with a word
-- that its version lacks: no line behind it is judged
unfoldable pub seen : List (List ℕ) → Seen
seen before = seen_so_far (filter_map declaration_in before) (count_by is_event_line before)

-- the least cause of a name that is declared
abbrev pub new_name_cause : List Declaration → List ℕ → Option TextCause
new_name_cause ds w =
    if not (is_name w) then Some TextCause.BadName
    else (if is_some (find_name ds w) then Some TextCause.Taken else None)

-- the least cause that holds at one word behind the first
unfoldable pub field_cause : List Declaration → Field → List ℕ → Option TextCause
field_cause ds Field.NewName w = new_name_cause ds w
field_cause ds (Field.Number limit) w = result_err (number_in limit w)
field_cause ds (Field.Operand kind) w = result_err (operand_in ds kind w)
field_cause ds Field.Place w = result_err (place_in w)

-- the least cause of them all
abbrev pub fields_cause : List Declaration → List Field → List (List ℕ) → Option TextCause
fields_cause ds fields words = fold (λ cause pair. lesser cause (field_cause ds pair.0 pair.1)) None (zip fields words)

-- a limit is reached, or a declaration is late. An event has two places at most, so places never run out before events
abbrev pub room_cause : Seen → Option Kind → Option TextCause
room_cause s None = if nat_le MAX_EVENTS s.events then Some TextCause.TooMany else None
room_cause s (Some kind) =
    if nat_le (limit_of kind) (count_of kind s.declarations) then Some TextCause.TooMany
    else (if nat_lt 0 s.events then Some TextCause.LateDeclaration else None)

-- the least cause of a line by its words: of the first, of how many there are, of each, and of what is full or late
abbrev pub word_cause : Seen → Option Word → List (List ℕ) → Option TextCause
word_cause s None words = Some TextCause.UnknownWord
word_cause s (Some word) words =
    if not (length words == length (fields_of word)) then Some TextCause.WrongCount
    else or_else (fields_cause s.declarations (fields_of word) words) (room_cause s (kind_declared word))

-- the least cause of a line behind the first, in a text of this version
unfoldable pub line_cause : Version → Seen → List ℕ → Option TextCause
line_cause version s line =
    if has_bad_byte line then Some TextCause.BadByte
    else word_cause s (word_in version (first_word (words_of line))) (arguments (words_of line))

-- the version that the first line says, where it is a header
abbrev pub version_said : List ℕ → Option Version
version_said line =
    if bytes_eq line (header Version.One) then Some Version.One
    else (if bytes_eq line (header Version.Two) then Some Version.Two else None)

-- the cause of the first line, by the version that it says
abbrev pub header_cause : Option Version → Bool → Option TextCause
header_cause None newline = Some TextCause.BadHeader
header_cause (Some version) newline = if newline then None else Some TextCause.NoNewline

-- the least cause of a line that stands after others, and ends with a newline or not. Where the first line is no header, no line
-- behind it is judged
unfoldable pub cause : List (List ℕ) → List ℕ → Bool → Option TextCause
cause [] line newline = header_cause (version_said line) newline
cause (first ∷ before) line newline =
    if newline then option_and_then (λ version. line_cause version (seen (first ∷ before)) line) (version_said first)
    else Some TextCause.NoNewline

-- the cause of the last part of a text, behind these lines. It is a line only where it has a byte, or is the first
abbrev pub end_cause : List (List ℕ) → List ℕ → Option TextCause
end_cause before last = if (length last == 0) && nat_lt 0 (length before) then None else cause before last false

-- the causes of a trace's text
abbrev pub trace_causes : Causes
trace_causes = record { line = λ before line. cause before line true; end = end_cause }

-- the first fault of a trace's text
abbrev pub text_fault : List ℕ → Option TextFault
text_fault bytes = first_fault trace_causes bytes
