-- The laws of trace text, which functions of src/laws.rt that do nothing have as their contracts.
use Rattle.std.specs.Prelude.{◌≡◌, ℕ, true, false, List, ◌∷◌, ◌++◌, Some, None}
use Rattle.race_records.specs.declared.{event.Op.Op, kind.Object.Object, decl_keywords.DeclKeyword.DeclKeyword, operands.OpKeyword.OpKeyword}
use Rattle.race_records.specs.{declared.version.Version.Version, Declarations.Declaration, Events.TraceState}
use Rattle.race_records.specs.{DeclKeywords.object_says, Operands.{says, has_op_keyword}, TraceEquality.recorded}
use Rattle.race_text.specs.{declared.{cause.TextFault.TextFault, form.Word.Word}, Form.word_in, Writing.decl_keyword_text}
use Rattle.race_text.specs.{Writing.{number_words, op_keyword_text, said_words}, Text.{header, object_words, op_words, text}}
use Rattle.race_text.specs.{Text.{HasText, IsTextOf, IsTraceText}, Fault.{version_said, trace_causes, text_fault}}
use Rattle.race_text.specs.Fed.{ended_fault}

-- every trace whose text the bytes are records what t records; that t is one isn't said
abbrev pub IsOnlyTraceOf : List ℕ → TraceState → Type 0
IsOnlyTraceOf bytes t = (u : TraceState) → IsTextOf u bytes → recorded u ≡ recorded t

-- each line that is printed has the words of the table from which the code reads and prints: those of what its declaration
-- or its operation says; each word of a declaration is known as itself, and so is each word of an operation in the versions
-- that have it, and in no other; and each header says its version
pub record LinesFollowTheTables : Type 0 where
  pub declarations : (name : List ℕ) (object : Object)
      → object_words name object ≡ decl_keyword_text (object_says object).0 ∷ name ∷ number_words (object_says object).1
  pub events : (ds : List Declaration) (who : List ℕ) (places : List (List ℕ)) (op : Op)
      → op_words ds who places op ≡ said_words ds who places (says op).0 (says op).1
  pub decl_keyword_known : (version : Version) (decl_keyword : DeclKeyword) → word_in version (decl_keyword_text decl_keyword) ≡ Some (Word.Declares decl_keyword)
  pub op_keyword_known : (version : Version) (op_keyword : OpKeyword) → has_op_keyword version op_keyword ≡ true → word_in version (op_keyword_text op_keyword) ≡ Some (Word.Does op_keyword)
  pub op_keyword_unknown : (version : Version) (op_keyword : OpKeyword) → has_op_keyword version op_keyword ≡ false → word_in version (op_keyword_text op_keyword) ≡ None
  pub header_known : (version : Version) → version_said (header version) ≡ Some version

-- the text of a trace has no fault
abbrev pub TextsHaveNoFault : Type 0
TextsHaveNoFault = (t : TraceState) → HasText t → text_fault (text t) ≡ None

-- bytes without a fault are some trace's text
abbrev pub FaultlessBytesAreTexts : Type 0
FaultlessBytesAreTexts = (bytes : List ℕ) → text_fault bytes ≡ None → IsTraceText bytes

-- traces with equal texts record the same: their version, declarations, and events with the texts of their places
abbrev pub EqualTextsAreOfEqualTraces : Type 0
EqualTextsAreOfEqualTraces = (t u : TraceState) → HasText t → HasText u → text t ≡ text u → recorded t ≡ recorded u

-- the first fault of the lines that are ended is the whole text's, whatever follows
abbrev pub EndedFaultsStay : Type 0
EndedFaultsStay = (bytes more : List ℕ) (fault : TextFault) → ended_fault trace_causes bytes ≡ Some fault → text_fault (bytes ++ more) ≡ Some fault
