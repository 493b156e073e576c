-- The laws of program text, which functions of src/laws.rt that do nothing have as their contracts.
use Rattle.std.specs.Prelude.{◌≡◌, ℕ, List, [], ◌∷◌, ◌++◌, codes, Some, None, is_some}
use Rattle.race_records.specs.{declared.{event.Op.TheVariants.Exit, version.Version.Version}, Declarations.Declaration}
use Rattle.race_model.specs.Examples.{does}
use Rattle.race_requests.specs.{declared.request.Ask.Ask, Sound.has_ask}
use Rattle.race_text.specs.{declared.cause.TextFault.TextFault, Fed.ended_fault, Form.first_word}
use Rattle.race_script.specs.{Fault.{program_causes, text_fault}, Certificate.FitsAt, Form.line_word_in}
use Rattle.race_script.specs.{Program.{Instruction, ProgramState, IsProgram, draft_of}, Reading.version_said}
use Rattle.race_script.specs.Text.{header, ask_words, program_text, IsTextOf, IsProgramText}

-- every program whose text the bytes are is the same as p, with its version and the texts of its places; that p is one isn't said
abbrev pub IsOnlyProgramOf : List ℕ → ProgramState → Type 0
IsOnlyProgramOf bytes p = (q : ProgramState) → IsTextOf q bytes → draft_of q ≡ draft_of p

-- the text of a program has no fault
abbrev pub TextsHaveNoFault : Type 0
TextsHaveNoFault = (p : ProgramState) → IsProgram p → text_fault (program_text p) ≡ None

-- bytes without a fault are some program's text
abbrev pub FaultlessBytesAreTexts : Type 0
FaultlessBytesAreTexts = (bytes : List ℕ) → text_fault bytes ≡ None → IsProgramText bytes

-- programs with equal texts are equal: the version, the declarations, and the bodies with the texts of their places
abbrev pub EqualTextsAreOfEqualPrograms : Type 0
EqualTextsAreOfEqualPrograms = (p q : ProgramState) → IsProgram p → IsProgram q → program_text p ≡ program_text q → draft_of p ≡ draft_of q

-- each header says its version; and the word with which an ask is printed is one of a version just where the version has the ask
pub record WordsFollowTheVersion : Type 0 where
  pub header_known : (version : Version) → version_said (header version) ≡ Some version
  pub asks_known : (version : Version) (ds : List Declaration) (place : List ℕ) (ask : Ask)
      → is_some (line_word_in version (first_word (ask_words ds place ask))) ≡ has_ask version ask

-- the first fault of the lines that are ended is the whole text's, whatever follows
abbrev pub EndedFaultsStay : Type 0
EndedFaultsStay = (bytes more : List ℕ) (fault : TextFault) → ended_fault program_causes bytes ≡ Some fault → text_fault (bytes ++ more) ≡ Some fault

-- a run of a body stands where the body does: main's exit at its place fits, and at another place it doesn't, whatever the numbers of the places are
abbrev pub exits_at_a : List Instruction
exits_at_a = record { ask = Ask.Exit; place = codes "a" } ∷ []

pub record PlacesCount : Type 0 where
  pub same : FitsAt exits_at_a (codes "a" ∷ []) 0 0 (does 0 Exit)
  pub other : FitsAt exits_at_a (codes "b" ∷ []) 0 0 (does 0 Exit) → ⊥
