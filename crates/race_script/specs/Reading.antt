-- What the lines of a program say, each looked at alone, and together.
use Rattle.std.specs.Prelude.{ℕ, List, [], ◌∷◌, ◌++◌, fold, unwrap_or, Option, Some, None, Result, Ok, Err}
use Rattle.std.specs.{Prelude.if◌then◌else◌, Borrow.Bor, List.filter_map, Option.{option_and_then, option_map}}
use Rattle.std.specs.{Result.result_ok, Str.bytes_eq}
use Rattle.race_records.specs.declared.{kind.Kind.Kind, operands.OperandKind.OperandKind, version.Version.Version}
use Rattle.race_records.specs.{Declarations.Declaration, Equality.Declared}
use Rattle.race_requests.specs.declared.request.Ask.{Ask}
use Rattle.race_text.specs.{declared.cause.TextCause.TextCause, Fault.declaration_in, Form.{first_word, arguments}}
use Rattle.race_text.specs.{Least.both_say, Meaning.{place_in, operand_in}, Reading.{ReadOperands, operands_on, last_place}}
use Rattle.race_text.specs.{Reading.goroutine_of, Words.words_of}
use Rattle.race_script.specs.{declared.form.{StepKeyword.StepKeyword, LineKeyword.LineKeyword}, Bodies.is_exit, Form.line_word_in}
use Rattle.race_script.specs.Form.{AskedWords, on_nil, ask_kinds, ask_by}
use Rattle.race_script.specs.{Offers.{SelectWords, select_words, select_in}, Program.{Instruction, Draft}, Text.header}
use Rattle.race_script.specs.Text.{Said, Begins, Asks}

-- the version that the first line says, where it is a header
abbrev pub version_said : List ℕ → Option Version
version_said line =
    if bytes_eq line (header Version.One) then Some Version.One
    else (if bytes_eq line (header Version.Two) then Some Version.Two else None)

-- the version of the lines, by the first of them: version 1 where that is no header, and no line behind it counts
abbrev pub version_in : List (List ℕ) → Version
version_in [] = Version.One
version_in (first ∷ others) = unwrap_or (version_said first) Version.One

-- what is asked at a place
abbrev pub asked_at : Ask → List ℕ → Instruction
asked_at ask place = record { ask = ask; place = place }

-- what an ask in the code with its place stands for
abbrev pub asked_read : Ask × Bor (List ℕ) → Instruction
asked_read asked = asked_at asked.0 asked.1.now

-- an ask, and then the one word that is left, its place
abbrev pub before_place : List (List ℕ) → Ask → Option Instruction
before_place rest ask = option_map (asked_at ask) (last_place rest)

-- what is asked by the operands that were read, and the words behind them
abbrev pub asked_by_operands : StepKeyword → ReadOperands → Option Instruction
asked_by_operands word read = option_and_then (before_place read.1) (ask_by word read.0)

-- what the words behind this one ask
abbrev pub asked_in : List Declaration → StepKeyword → List (List ℕ) → Option Instruction
asked_in ds word words = option_and_then (asked_by_operands word) (operands_on ds [] (ask_kinds word) words)

-- what the words behind `select` ask
abbrev pub selected_in : List Declaration → Option SelectWords → Result Instruction TextCause
selected_in ds None = Err TextCause.WrongCount
selected_in ds (Some w) = both_say (λ ask place. Ok (asked_at ask place)) (select_in ds w) (place_in w.place)

-- the goroutine that the one word names
abbrev pub begun_in : List Declaration → List (List ℕ) → Option ℕ
begun_in ds (w ∷ []) = option_and_then goroutine_of (result_ok (operand_in ds (OperandKind.Object Kind.Goroutine) w))
begun_in ds _ = None

-- what words that begin with an ask's say
abbrev pub asks_by : List Declaration → AskedWords → Option Said
asks_by ds asked = option_map Asks (asked_in ds asked.0 asked.1)

-- what the words behind a first word say
abbrev pub said_by : List Declaration → Option LineKeyword → List (List ℕ) → Option Said
said_by ds (Some LineKeyword.Begins) words = option_map Begins (begun_in ds words)
said_by ds (Some (LineKeyword.Asks word)) words = asks_by ds (on_nil word words)
said_by ds (Some LineKeyword.Selects) words = option_map Asks (result_ok (selected_in ds (select_words words)))
said_by ds _ words = None

-- what a line says of the bodies, in a text of this version with these declarations
abbrev pub said_in : Declared → List ℕ → Option Said
said_in d line = said_by d.declarations (line_word_in d.version (first_word (words_of line))) (arguments (words_of line))

-- the program with one more instruction in the body that has not ended: an exit ends it
abbrev pub with_instruction : Draft → Instruction → Option (List Instruction) → Draft
with_instruction d i None = d
with_instruction d i (Some body) =
    if is_exit i.ask then record { version = d.version; declarations = d.declarations; ended = d.ended ++ (body ++ i ∷ []) ∷ []; unended = None }
    else record { version = d.version; declarations = d.declarations; ended = d.ended; unended = Some (body ++ i ∷ []) }

-- the program with what one more line says
abbrev pub with_said : Draft → Said → Draft
with_said d (Begins g) = record { version = d.version; declarations = d.declarations; ended = d.ended; unended = Some [] }
with_said d (Asks i) = with_instruction d i d.unended

-- the program of which nothing is told but its version and what is declared
abbrev pub nothing_said : Declared → Draft
nothing_said d = record { version = d.version; declarations = d.declarations; ended = []; unended = None }

-- what lines say of the bodies, in order
abbrev pub all_said : Declared → List (List ℕ) → Draft
all_said d lines = fold with_said (nothing_said d) (filter_map (said_in d) lines)

-- the version of the lines, and what they declare
abbrev pub declared_in : List (List ℕ) → Declared
declared_in lines = record { version = version_in lines; declarations = filter_map declaration_in lines }

-- what the lines before say together, whether one is at fault or not
unfoldable pub seen : List (List ℕ) → Draft
seen before = all_said (declared_in before) before
