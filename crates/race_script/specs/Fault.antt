-- The first fault of a program's text: the first line at which a cause holds, and the least cause that holds there.
use Rattle.std.specs.Prelude.{ℕ, ◌==◌, ◌&&◌, ◌||◌, Bool, true, false, not, if◌then◌else◌, nat_le, nat_lt, List, [], ◌∷◌}
use Rattle.std.specs.{Prelude.{length, Option, Some, None, is_some, is_none}, Option.option_and_then, Result.result_err}
use Rattle.race_records.specs.declared.{declarations.TheConstants.MAX_PLACES, kind.Kind.Kind}
use Rattle.race_records.specs.Declarations.{Declaration, count_of, is_known}
use Rattle.race_requests.specs.declared.request.Ask.{Ask}
use Rattle.race_text.specs.declared.{cause.{TextCause.TextCause, TextFault.TextFault}, form.{Field.Field, Word.Word}}
use Rattle.race_text.specs.{Fault.{or_else, seen_so_far, fields_cause, header_cause}, Form.{first_word, arguments}}
use Rattle.race_text.specs.{Lines.{Causes, first_fault}, Words.{words_of, has_bad_byte}}
use Rattle.race_script.specs.declared.{form.LineKeyword.LineKeyword, program.TheConstants.MAX_STEPS}
use Rattle.race_script.specs.{Bodies.{is_exit, after_ask, onces_after}, Form.{line_word_in, AskedWords, on_nil}}
use Rattle.race_script.specs.{Form.{ask_fields, begin_fields}, Offers.select_words, Program.{Instruction, Draft}}
use Rattle.race_script.specs.{Program.{asked_by, bodies_of, places_of}, Reading.{version_said, selected_in, said_by}}
use Rattle.race_script.specs.{Reading.{asks_by, seen}, Text.{Said, Begins, Asks}}
use Rattle.race_text.specs.Fault as text

-- the least cause of the words behind the first, by what they have to be: of how many there are, and of each
abbrev pub words_cause : List Declaration → List Field → List (List ℕ) → Option TextCause
words_cause ds fields words = if not (length words == length fields) then Some TextCause.WrongCount else fields_cause ds fields words

-- the place is another than all before, of which there are as many as there can be
abbrev pub has_no_room : List (List ℕ) → List ℕ → Bool
has_no_room places place = not (is_known places place) && nat_le MAX_PLACES (length places)

-- the ask may follow where these functions of onces are open: an exit where none is
abbrev pub may_follow : Option (List ℕ) → Ask → Bool
may_follow None ask = false
may_follow (Some onces) ask = if is_exit ask then length onces == 0 else is_some (after_ask onces ask)

-- the cause of an ask that may not
abbrev pub follow_cause : Option (List ℕ) → Ask → Option TextCause
follow_cause onces ask = if may_follow onces ask then None else Some TextCause.BadBlock

-- the least cause of an instruction, of which there can be too many in a body. It stands in one, where it may
abbrev pub asked_cause : Draft → Instruction → Option (List Instruction) → Option TextCause
asked_cause d i None = Some TextCause.BadBlock
asked_cause d i (Some body) =
    if nat_le MAX_STEPS (length body) || has_no_room (places_of d) i.place then Some TextCause.TooMany
    else follow_cause (onces_after [] (asked_by body)) i.ask

-- the body of the goroutine is the next one, and none before has not ended
abbrev pub may_begin : Draft → ℕ → Bool
may_begin d g = is_none d.unended && (length d.ended == g)

-- the least cause of what a line says of the bodies
abbrev pub said_cause : Draft → Said → Option TextCause
said_cause d (Begins g) = if may_begin d g then None else Some TextCause.BadBlock
said_cause d (Asks i) = asked_cause d i d.unended

-- the least cause of words that begin with an ask's
abbrev pub asks_cause : Draft → AskedWords → Option TextCause
asks_cause d asked =
    or_else (words_cause d.declarations (ask_fields asked.0) asked.1) (option_and_then (said_cause d) (asks_by d.declarations asked))

-- the least cause of a line by its words. A declaration is late where a body has begun
abbrev pub word_cause : Draft → Option LineKeyword → List (List ℕ) → Option TextCause
word_cause d None words = Some TextCause.UnknownWord
word_cause d (Some (LineKeyword.Declares keyword)) words =
    text.word_cause (seen_so_far d.declarations (length (bodies_of d))) (Some (Word.Declares keyword)) words
word_cause d (Some LineKeyword.Begins) words =
    or_else (words_cause d.declarations begin_fields words) (option_and_then (said_cause d) (said_by d.declarations (Some LineKeyword.Begins) words))
word_cause d (Some (LineKeyword.Asks word)) words = asks_cause d (on_nil word words)
word_cause d (Some LineKeyword.Selects) words =
    or_else (result_err (selected_in d.declarations (select_words words))) (option_and_then (said_cause d) (said_by d.declarations (Some LineKeyword.Selects) words))

-- the least cause of a line behind the first
unfoldable pub line_cause : Draft → List ℕ → Option TextCause
line_cause d line =
    if has_bad_byte line then Some TextCause.BadByte
    else word_cause d (line_word_in d.version (first_word (words_of line))) (arguments (words_of line))

-- the least cause of a line that stands after others, and ends with a newline or not
unfoldable pub cause : List (List ℕ) → List ℕ → Bool → Option TextCause
cause [] line newline = header_cause (version_said line) newline
cause (first ∷ before) line newline = if newline then line_cause (seen (first ∷ before)) line else Some TextCause.NoNewline

-- each goroutine's body has ended
abbrev pub is_whole : Draft → Bool
is_whole d = is_none d.unended && (length d.ended == count_of Kind.Goroutine d.declarations)

-- the least cause of what stands behind the last newline. Where it has no byte it is no line, but the text may end too early
unfoldable pub end_cause : List (List ℕ) → List ℕ → Option TextCause
end_cause before last =
    if (length last == 0) && nat_lt 0 (length before) then (if is_whole (seen before) then None else Some TextCause.BadBlock)
    else cause before last false

-- the causes of a program's text
abbrev pub program_causes : Causes
program_causes = record { line = λ before line. cause before line true; end = end_cause }

-- the first fault of a program's text
abbrev pub text_fault : List ℕ → Option TextFault
text_fault bytes = first_fault program_causes bytes
