-- The words that a line of a program may begin with, and what each wants behind it.
use Rattle.std.specs.Prelude.{ℕ, Bool, true, if◌then◌else◌, List, [], ◌∷◌, ◌++◌, map, Option, Some, None, option_map}
use Rattle.std.specs.{Option.{option_and_then, option_map_or}, Str.bytes_eq}
use Rattle.race_records.specs.declared.{kind.Kind.Kind, operands.{Operand.Operand, OperandKind.OperandKind, OpKeyword.OpKeyword}}
use Rattle.race_records.specs.{declared.version.Version.Version, Operands.{has_op_keyword, object_alone, object_value}}
use Rattle.race_requests.specs.declared.request.Ask.{Ask}
use Rattle.race_text.specs.{declared.form.{Field.Field, Word.Word}, Form.word_named, Select.nil}
use Rattle.race_script.specs.declared.form.{StepKeyword.StepKeyword, LineKeyword.LineKeyword, TheConstants.BODY_WORDS}

-- what the table has at a word
abbrev pub lookup : List (List ℕ × LineKeyword) → List ℕ → Option LineKeyword
lookup [] w = None
lookup (entry ∷ entries) w = if bytes_eq w entry.0 then Some entry.1 else lookup entries w

-- a word that declares, and else another
abbrev pub decl_keyword_or : Option Word → Option LineKeyword → Option LineKeyword
decl_keyword_or (Some (Word.Declares keyword)) other = Some (LineKeyword.Declares keyword)
decl_keyword_or _ other = other

-- what the first word of a line says that the line is in some version: as in a trace where it declares, and else by the table of
-- words in src/form.rt
unfoldable pub line_word : List ℕ → Option LineKeyword
line_word w = decl_keyword_or (word_named w) (lookup (map (λ entry. (entry.0.now, entry.1)) BODY_WORDS) w)

-- the version has the word of an ask: that of a try, where it has the word of one that succeeds
abbrev pub has_ask_word : Version → StepKeyword → Bool
has_ask_word version StepKeyword.TryLock = has_op_keyword version OpKeyword.TryLock
has_ask_word version StepKeyword.TryRLock = has_op_keyword version OpKeyword.TryRLock
has_ask_word version _ = true

-- the version has lines of this kind
abbrev pub has_line_word : Version → LineKeyword → Bool
has_line_word version (LineKeyword.Asks word) = has_ask_word version word
has_line_word version _ = true

-- the word, where the version has it
abbrev pub as_had : Version → LineKeyword → Option LineKeyword
as_had version word = if has_line_word version word then Some word else None

-- what the first word of a line says that the line is in a text of the version
abbrev pub line_word_in : Version → List ℕ → Option LineKeyword
line_word_in version w = option_and_then (as_had version) (line_word w)

-- what is asked of nil by this word, where it may be
abbrev pub word_on_nil : StepKeyword → Option StepKeyword
word_on_nil StepKeyword.Send = Some StepKeyword.SendNil
word_on_nil StepKeyword.Recv = Some StepKeyword.RecvNil
word_on_nil StepKeyword.Close = Some StepKeyword.CloseNil
word_on_nil _ = None

-- a word of an ask, and the words behind it
abbrev pub AskedWords : Type 0
AskedWords = StepKeyword × List (List ℕ)

-- what is asked of nil has a word of its own, in which the `nil` is taken up
abbrev pub on_nil : StepKeyword → List (List ℕ) → AskedWords
on_nil word [] = (word, [])
on_nil word (w ∷ ws) = if bytes_eq w nil then option_map_or (λ other. (other, ws)) (word_on_nil word) (word, w ∷ ws) else (word, w ∷ ws)

-- what the operands behind each word are
abbrev pub ask_kinds : StepKeyword → List OperandKind
ask_kinds StepKeyword.Go = OperandKind.Object Kind.Goroutine ∷ []
ask_kinds StepKeyword.Exit = []
ask_kinds StepKeyword.Read = OperandKind.Object Kind.Var ∷ []
ask_kinds StepKeyword.Write = OperandKind.Object Kind.Var ∷ OperandKind.Value ∷ []
ask_kinds StepKeyword.Send = OperandKind.Object Kind.Chan ∷ OperandKind.Value ∷ []
ask_kinds StepKeyword.SendNil = OperandKind.Value ∷ []
ask_kinds StepKeyword.Recv = OperandKind.Object Kind.Chan ∷ []
ask_kinds StepKeyword.RecvNil = []
ask_kinds StepKeyword.Close = OperandKind.Object Kind.Chan ∷ []
ask_kinds StepKeyword.CloseNil = []
ask_kinds StepKeyword.Lock = OperandKind.Object Kind.Lock ∷ []
ask_kinds StepKeyword.Unlock = OperandKind.Object Kind.Lock ∷ []
ask_kinds StepKeyword.RLock = OperandKind.RwMutex ∷ []
ask_kinds StepKeyword.RUnlock = OperandKind.RwMutex ∷ []
ask_kinds StepKeyword.TryLock = OperandKind.Object Kind.Lock ∷ []
ask_kinds StepKeyword.TryRLock = OperandKind.RwMutex ∷ []
ask_kinds StepKeyword.Do = OperandKind.Object Kind.Once ∷ []
ask_kinds StepKeyword.EndDo = OperandKind.Object Kind.Once ∷ []

-- what stands behind the word: its operands, and a place
abbrev pub ask_fields : StepKeyword → List Field
ask_fields word = map Field.Operand (ask_kinds word) ++ Field.Place ∷ []

-- what stands behind `body`
abbrev pub begin_fields : List Field
begin_fields = Field.Operand (OperandKind.Object Kind.Goroutine) ∷ []

-- they are a value
abbrev pub value_alone : List Operand → Option ℕ
value_alone (Operand.Value v ∷ []) = Some v
value_alone _ = None

-- there are none
abbrev pub if_none : Ask → List Operand → Option Ask
if_none ask [] = Some ask
if_none ask _ = None

-- what is asked by the word and its operands, where anything is
abbrev pub ask_by : StepKeyword → List Operand → Option Ask
ask_by StepKeyword.Go operands = option_map Ask.Go (object_alone Kind.Goroutine operands)
ask_by StepKeyword.Exit operands = if_none Ask.Exit operands
ask_by StepKeyword.Read operands = option_map Ask.Read (object_alone Kind.Var operands)
ask_by StepKeyword.Write operands = option_map (λ p. Ask.Write p.0 p.1) (object_value Kind.Var operands)
ask_by StepKeyword.Send operands = option_map (λ p. Ask.Send (Some p.0) p.1) (object_value Kind.Chan operands)
ask_by StepKeyword.SendNil operands = option_map (λ v. Ask.Send None v) (value_alone operands)
ask_by StepKeyword.Recv operands = option_map (λ c. Ask.Recv (Some c)) (object_alone Kind.Chan operands)
ask_by StepKeyword.RecvNil operands = if_none (Ask.Recv None) operands
ask_by StepKeyword.Close operands = option_map (λ c. Ask.Close (Some c)) (object_alone Kind.Chan operands)
ask_by StepKeyword.CloseNil operands = if_none (Ask.Close None) operands
ask_by StepKeyword.Lock operands = option_map Ask.Lock (object_alone Kind.Lock operands)
ask_by StepKeyword.Unlock operands = option_map Ask.Unlock (object_alone Kind.Lock operands)
ask_by StepKeyword.RLock operands = option_map Ask.RLock (object_alone Kind.Lock operands)
ask_by StepKeyword.RUnlock operands = option_map Ask.RUnlock (object_alone Kind.Lock operands)
ask_by StepKeyword.TryLock operands = option_map Ask.TryLock (object_alone Kind.Lock operands)
ask_by StepKeyword.TryRLock operands = option_map Ask.TryRLock (object_alone Kind.Lock operands)
ask_by StepKeyword.Do operands = option_map Ask.Do (object_alone Kind.Once operands)
ask_by StepKeyword.EndDo operands = option_map Ask.EndDo (object_alone Kind.Once operands)
