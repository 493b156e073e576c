-- How far a program is read, line by line.
use Rattle.std.specs.Prelude.{◌≡◌, ℕ, ◌≤◌, ◌<◌, ◌||◌, if◌then◌else◌, nat_le, Result, Ok, Err, Bool, true, false, List, [], ◌∷◌, ◌++◌, length, map}
use Rattle.std.specs.{Prelude.{reverse, Option, Some, None, IfSome}, List.list_all, Option.option_map}
use Rattle.race_records.specs.declared.{kind.Kind.Kind, version.Version.Version}
use Rattle.race_records.specs.Declarations.{DeclsState, IsWellFormed, count_of, place_fault, place_number, with_place}
use Rattle.race_requests.specs.declared.request.Request.{Request}
use Rattle.race_script.specs.declared.{program.TheConstants.MAX_STEPS, form.LineKeyword.LineKeyword, reader.Unended.Unended}
use Rattle.race_script.specs.{Bodies.{is_exit, after_ask, onces_after}, Form.line_word_in, Fault.cause}
use Rattle.race_script.specs.{Fault.{program_causes, said_cause, may_follow, follow_cause, has_no_room}, Program.{Instruction, Draft}}
use Rattle.race_script.specs.Program.{ProgramState, asks_of, request_fits, is_body_of, spelled, bodies_of, places_of}
use Rattle.race_script.specs.{Reading.{seen, with_said}, Text.{Said, lines}}
use Rattle.race_text.specs.{declared.cause.TextCause.TextCause, Form.first_word, Grammar.AreThese, Lines.GoesOn}
use Rattle.race_text.specs.{Owed.owed, Reader.nothing_in, Words.{words_of, has_bad_byte}}

-- the body that has not ended, and the onces whose functions are open in it, the innermost last
pub record UnendedState : Type 0 where
  pub requests : List Request
  pub onces : List ℕ

abbrev pub state_of : {A : Type 0} → Unended A → UnendedState
state_of u = record { requests = u.requests.items; onces = u.onces.items }

-- what was read: the header or not, the declarations with the version and the places, the bodies that have ended, and the one that has not
pub record ReadState : Type 0 where
  pub has_header : Bool
  pub decls : DeclsState
  pub ended : List (List Request)
  pub unended : Option UnendedState

-- with the places as they are spelled
abbrev pub spelled_unended : List (List ℕ) → Option UnendedState → Option (List Instruction)
spelled_unended places unended = option_map (λ u. spelled places u.requests) unended

abbrev pub draft_read : ReadState → Draft
draft_read s = record {
  version = s.decls.version;
  declarations = s.decls.declarations;
  ended = map (spelled s.decls.places) s.ended;
  unended = spelled_unended s.decls.places s.unended;
}

-- the lines that were taken, the header among them
abbrev pub lines_by : Bool → Draft → List (List ℕ)
lines_by false d = []
lines_by true d = lines d

abbrev pub lines_read : ReadState → List (List ℕ)
lines_read s = lines_by s.has_header (draft_read s)

-- the requests are a body that may go on: each fits, they nest, and there are not too many
pub record IsUnended (decls : DeclsState) (u : UnendedState) : Type 0 where
  pub fit : list_all (request_fits decls) u.requests ≡ true
  pub nest : onces_after [] (asks_of u.requests) ≡ Some (reverse u.onces)
  pub few : length u.requests ≤ MAX_STEPS

-- all that was read fits
pub record IsSound (s : ReadState) : Type 0 where
  pub well_formed : IsWellFormed s.decls
  pub ended : list_all (is_body_of s.decls) s.ended ≡ true
  pub unended : IfSome s.unended (IsUnended s.decls)
  pub places : places_of (draft_read s) ≡ s.decls.places
  pub few : length (bodies_of (draft_read s)) ≤ count_of Kind.Goroutine s.decls.declarations

-- what was read behind the header: all fits, and the lines say it
pub record IsRead (s : ReadState) : Type 0 where
  pub sound : IsSound s
  pub seen_is : seen (lines (draft_read s)) ≡ draft_read s

-- nothing was read
pub record IsEmpty (s : ReadState) : Type 0 where
  pub decls : s.decls ≡ nothing_in Version.One
  pub ended : s.ended ≡ []
  pub unended : s.unended ≡ None

-- what holds between two lines
abbrev pub IsReadBy : Bool → ReadState → Type 0
IsReadBy false s = IsEmpty s
IsReadBy true s = IsRead s

abbrev pub IsReading : ReadState → Type 0
IsReading s = IsReadBy s.has_header s

-- the lines that were taken, while what was read is sound
abbrev pub StandsFor : ReadState → List (List ℕ) → Type 0
StandsFor s = AreThese (IsReading s) (lines_read s)

-- the program that was read
abbrev pub program_read : ReadState → ProgramState
program_read s = record { decls = s.decls; bodies = s.ended }

-- in a text of the version the line has these words behind one of this kind, and no bad byte
pub record HasWords (version : Version) (line : List ℕ) (word : LineKeyword) (words : List (List ℕ)) : Type 0 where
  pub clean : has_bad_byte line ≡ false
  pub named : line_word_in version (first_word (words_of line)) ≡ Some word
  pub behind : words_of line ≡ first_word (words_of line) ∷ words

-- what the line says is taken, and no cause holds of it
pub record TakesSaid (old : ReadState) (said : Said) (new : ReadState) : Type 0 where
  pub header : new.has_header ≡ true
  pub no_cause : said_cause (draft_read old) said ≡ None
  pub draft : draft_read new ≡ with_said (draft_read old) said
  pub sound : IsSound new

-- the request is added to the others, where it may follow, and these functions are open then, unless it is an exit
pub record Pushes (requests : List Request) (onces : List ℕ) (request : Request) (more : List Request) (inside : List ℕ) : Type 0 where
  pub follows : may_follow (Some (reverse onces)) request.ask ≡ true
  pub added : more ≡ requests ++ request ∷ []
  pub entered : is_exit request.ask ≡ false → after_ask (reverse onces) request.ask ≡ Some (reverse inside)

-- the least cause of an instruction behind these
abbrev pub added_cause : DeclsState → UnendedState → Instruction → Option TextCause
added_cause decls u i =
    if nat_le MAX_STEPS (length u.requests) || has_no_room decls.places i.place then Some TextCause.TooMany
    else follow_cause (Some (reverse u.onces)) i.ask

-- the instruction, of which there is no cause, is added to the others; its place is declared
pub record Adds (decls : DeclsState) (old : UnendedState) (i : Instruction) (more : DeclsState) (new : UnendedState) : Type 0 where
  pub few : length old.requests < MAX_STEPS
  pub room : place_fault decls.places i.place ≡ None
  pub place : more ≡ with_place decls i.place
  pub pushes : Pushes old.requests old.onces (record { ask = i.ask; place = place_number decls.places i.place }) new.requests new.onces

-- the line is taken behind the others
pub record TakesLine (old : ReadState) (line : List ℕ) (new : ReadState) : Type 0 where
  pub header : new.has_header ≡ true
  pub goes : GoesOn program_causes (lines (draft_read old)) line (lines (draft_read new))
  pub read : IsRead new

-- or what is owed by its least cause is told
abbrev pub TakesOrTells : ReadState → List ℕ → Result Unit TextCause → ReadState → Type 0
TakesOrTells old line (Ok u) new = TakesLine old line new
TakesOrTells old line (Err told) new = told ≡ owed (cause (lines (draft_read old)) line true)
