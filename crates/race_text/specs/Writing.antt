-- Pieces of a trace's text.
use Rattle.std.specs.Prelude.{ℕ, zero, suc, List, [], ◌∷◌, ◌++◌, map, codes, slice_get, unwrap_or, Option, Some, None}
use Rattle.std.specs.{Fmt.decimal, List.flat_map}
use Rattle.race_records.specs.declared.{event.Event.Event, decl_keywords.DeclKeyword.DeclKeyword, operands.{Operand.Operand, OpKeyword.OpKeyword}}
use Rattle.race_records.specs.Declarations.{Declaration, DeclsState, name_of}
use Rattle.race_text.specs.Text.{ended, cases_text, failure_text, declaration_line, event_line}

-- the texts of declarations and of events
abbrev pub declarations_text : List Declaration → List ℕ
declarations_text ds = flat_map (λ d. ended (declaration_line d)) ds

abbrev pub events_text : DeclsState → List Event → List ℕ
events_text decls events = flat_map (λ e. ended (event_line decls e)) events

-- all behind the header
abbrev pub body : DeclsState → List Event → List ℕ
body decls events = declarations_text decls.declarations ++ events_text decls events

-- the text of a declaration, where there is one
abbrev pub text_of : Option Declaration → List ℕ
text_of None = []
text_of (Some d) = ended (declaration_line d)

-- the text of declaration i
abbrev pub declaration_text : List Declaration → ℕ → List ℕ
declaration_text ds i = text_of (slice_get ds i)

-- the word of a declaration
abbrev pub decl_keyword_text : DeclKeyword → List ℕ
decl_keyword_text DeclKeyword.Goroutine = codes "goroutine"
decl_keyword_text DeclKeyword.Var = codes "var"
decl_keyword_text DeclKeyword.Chan = codes "chan"
decl_keyword_text DeclKeyword.Mutex = codes "mutex"
decl_keyword_text DeclKeyword.RwMutex = codes "rwmutex"
decl_keyword_text DeclKeyword.Once = codes "once"

-- the word of the number behind a name, where there is one
abbrev pub number_words : Option ℕ → List (List ℕ)
number_words None = []
number_words (Some n) = decimal n ∷ []

-- the end of a declaration's line: its number, where it has one
abbrev pub number_end : Option ℕ → List ℕ
number_end None = 10 ∷ []
number_end (Some n) = 32 ∷ decimal n ++ 10 ∷ []

-- the word of an operation
abbrev pub op_keyword_text : OpKeyword → List ℕ
op_keyword_text OpKeyword.Go = codes "go"
op_keyword_text OpKeyword.Exit = codes "exit"
op_keyword_text OpKeyword.Read = codes "read"
op_keyword_text OpKeyword.Write = codes "write"
op_keyword_text OpKeyword.Send = codes "send"
op_keyword_text OpKeyword.Recv = codes "recv"
op_keyword_text OpKeyword.Meet = codes "meet"
op_keyword_text OpKeyword.RecvClosed = codes "recvclosed"
op_keyword_text OpKeyword.Close = codes "close"
op_keyword_text OpKeyword.Default = codes "default"
op_keyword_text OpKeyword.Lock = codes "lock"
op_keyword_text OpKeyword.Unlock = codes "unlock"
op_keyword_text OpKeyword.RLock = codes "rlock"
op_keyword_text OpKeyword.RUnlock = codes "runlock"
op_keyword_text OpKeyword.TryLock = codes "trylock"
op_keyword_text OpKeyword.TryRLock = codes "tryrlock"
op_keyword_text OpKeyword.TryFail = codes "tryfail"
op_keyword_text OpKeyword.OnceBegin = codes "oncebegin"
op_keyword_text OpKeyword.OnceEnd = codes "onceend"
op_keyword_text OpKeyword.OnceDone = codes "oncedone"
op_keyword_text OpKeyword.Fault = codes "fault"

-- what is printed of an operand
abbrev pub operand_text : List Declaration → Operand → List ℕ
operand_text ds (Operand.Object named) = unwrap_or (name_of ds named) []
operand_text ds (Operand.Value v) = decimal v
operand_text ds (Operand.Cases cases) = cases_text ds cases
operand_text ds (Operand.Cause cause) = failure_text ds cause

-- what stands before case k: a space, or a comma
abbrev pub separator : ℕ → ℕ
separator zero = 32
separator (suc k) = 44

-- the words that an operation says, before those of its places
abbrev pub said_words : List Declaration → List ℕ → List (List ℕ) → OpKeyword → List Operand → List (List ℕ)
said_words ds who places op_keyword operands = op_keyword_text op_keyword ∷ who ∷ map (operand_text ds) operands ++ places

-- an operand behind a space, all operands so, and the places behind them
abbrev pub behind_space : List Declaration → Operand → List ℕ
behind_space ds operand = 32 ∷ operand_text ds operand

abbrev pub operands_text : List Declaration → List Operand → List ℕ
operands_text ds operands = flat_map (behind_space ds) operands

abbrev pub place_end : List ℕ → Option (List ℕ) → List ℕ
place_end place None = 32 ∷ place ++ 10 ∷ []
place_end place (Some second) = 32 ∷ place ++ 32 ∷ (second ++ 10 ∷ [])
