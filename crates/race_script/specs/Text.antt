-- The text of a program. It prints: nothing here reads.
use Rattle.std.specs.{Prelude.{◌≡◌, ℕ, ◌+◌, List, [], ◌∷◌, ◌++◌, map, codes}, Fmt.decimal, List.flat_map}
use Rattle.race_records.specs.{declared.version.Version.Version, Declarations.Declaration}
use Rattle.race_requests.specs.declared.request.Ask.{Ask}
use Rattle.race_text.specs.Text.{line_of, declaration_line, goroutine_name, var_name, chan_text, lock_name, once_name}
use Rattle.race_text.specs.Text.{ended}
use Rattle.race_script.specs.{Offers.{offers_text, mode_text}, Program.{Instruction, Draft, ProgramState, IsProgram}}
use Rattle.race_script.specs.Program.{bodies_of, draft_of}

-- the first line, by the version
abbrev pub header : Version → List ℕ
header Version.One = codes "goprogram 1"
header Version.Two = codes "goprogram 2"

-- what a line of a body says: it begins the body of a goroutine, or asks
pub data Said : Type 0 where
  Begins : (goroutine : ℕ) → Said
  Asks : (asked : Instruction) → Said

-- the words of an ask at this place
abbrev pub ask_words : List Declaration → List ℕ → Ask → List (List ℕ)
ask_words ds place (Ask.Go h) = codes "go" ∷ goroutine_name ds h ∷ place ∷ []
ask_words ds place Ask.Exit = codes "exit" ∷ place ∷ []
ask_words ds place (Ask.Read x) = codes "read" ∷ var_name ds x ∷ place ∷ []
ask_words ds place (Ask.Write x v) = codes "write" ∷ var_name ds x ∷ decimal v ∷ place ∷ []
ask_words ds place (Ask.Send c v) = codes "send" ∷ chan_text ds c ∷ decimal v ∷ place ∷ []
ask_words ds place (Ask.Recv c) = codes "recv" ∷ chan_text ds c ∷ place ∷ []
ask_words ds place (Ask.Close c) = codes "close" ∷ chan_text ds c ∷ place ∷ []
ask_words ds place (Ask.Select offers has_default) = codes "select" ∷ offers_text ds offers ∷ mode_text has_default ∷ place ∷ []
ask_words ds place (Ask.Lock l) = codes "lock" ∷ lock_name ds l ∷ place ∷ []
ask_words ds place (Ask.Unlock l) = codes "unlock" ∷ lock_name ds l ∷ place ∷ []
ask_words ds place (Ask.RLock l) = codes "rlock" ∷ lock_name ds l ∷ place ∷ []
ask_words ds place (Ask.RUnlock l) = codes "runlock" ∷ lock_name ds l ∷ place ∷ []
ask_words ds place (Ask.TryLock l) = codes "trylock" ∷ lock_name ds l ∷ place ∷ []
ask_words ds place (Ask.TryRLock l) = codes "tryrlock" ∷ lock_name ds l ∷ place ∷ []
ask_words ds place (Ask.Do o) = codes "do" ∷ once_name ds o ∷ place ∷ []
ask_words ds place (Ask.EndDo o) = codes "enddo" ∷ once_name ds o ∷ place ∷ []

-- the words of a line of a body
abbrev pub said_words : List Declaration → Said → List (List ℕ)
said_words ds (Begins g) = codes "body" ∷ goroutine_name ds g ∷ []
said_words ds (Asks i) = ask_words ds i.place i.ask

abbrev pub said_line : List Declaration → Said → List ℕ
said_line ds said = line_of (said_words ds said)

-- what the bodies say, line by line: those of goroutine g and the ones behind it
abbrev pub saids : ℕ → List (List Instruction) → List Said
saids g [] = []
saids g (body ∷ bodies) = Begins g ∷ map Asks body ++ saids (g + 1) bodies

-- the header, a line for each declaration, and the lines of the bodies
unfoldable pub lines : Draft → List (List ℕ)
lines d = header d.version ∷ map declaration_line d.declarations ++ map (said_line d.declarations) (saids 0 (bodies_of d))

-- the text of a program with its places as they are spelled
unfoldable pub draft_text : Draft → List ℕ
draft_text d = flat_map ended (lines d)

-- the text of a program
abbrev pub program_text : ProgramState → List ℕ
program_text p = draft_text (draft_of p)

-- the bytes are the program's text
pub record IsTextOf (p : ProgramState) (bytes : List ℕ) : Type 0 where
  pub program : IsProgram p
  pub printed : bytes ≡ program_text p

-- the bytes are some program's text
abbrev pub IsProgramText : List ℕ → Type 0
IsProgramText bytes = (p : ProgramState) × IsTextOf p bytes
