-- Lines that declare: what they add, and why they are refused where no event stands before them.
use Rattle.std.specs.Prelude.{ℕ, Bool, false, if◌then◌else◌, List, Option, Some, None, is_some}
use Rattle.std.specs.Option.{option_and_then}
use Rattle.race_records.specs.declared.{declarations.DeclFault.DeclFault, kind.Object.Object, decl_keywords.DeclKeyword.DeclKeyword}
use Rattle.race_records.specs.{Declarations.{Declaration, DeclsState, with_declaration}, DeclKeywords.object_by}
use Rattle.race_text.specs.{declared.{cause.TextCause.TextCause, form.Word.Word}, Words.{words_of, number}}
use Rattle.race_text.specs.Form.{word_named, kind_declared, first_word, arguments}
use Rattle.race_text.specs.Fault.{seen_so_far, declaration_in, word_cause}

-- the first word is one that declares
abbrev pub is_declaration_word : Option Word → Bool
is_declaration_word None = false
is_declaration_word (Some word) = is_some (kind_declared word)

-- a line that declares
abbrev pub is_declaration_line : List ℕ → Bool
is_declaration_line line = is_declaration_word (word_named (first_word (words_of line)))

-- the least cause of what stands behind a keyword, where no event stands before it
abbrev pub decl_keyword_cause : List Declaration → DeclKeyword → List (List ℕ) → Option TextCause
decl_keyword_cause ds keyword words = word_cause (seen_so_far ds 0) (Some (Word.Declares keyword)) words

-- the least cause of a line that declares, where no event stands before it and it has no bad byte. No other line has one
abbrev pub declaration_cause : List Declaration → List ℕ → Option TextCause
declaration_cause ds line =
    if is_declaration_line line
    then word_cause (seen_so_far ds 0) (word_named (first_word (words_of line))) (arguments (words_of line))
    else None

-- the state with what is declared at the end
abbrev pub with_declared : DeclsState → Option Declaration → DeclsState
with_declared decls None = decls
with_declared decls (Some d) = with_declaration decls d.name d.object

-- the state after a line that declares
abbrev pub with_declaration_in : DeclsState → List ℕ → DeclsState
with_declaration_in decls line = with_declared decls (declaration_in line)

-- the cause that a refused declaration or place gives
abbrev pub cause_of : DeclFault → TextCause
cause_of DeclFault.BadName = TextCause.BadName
cause_of DeclFault.Taken = TextCause.Taken
cause_of DeclFault.TooMany = TextCause.TooMany
cause_of DeclFault.BadCapacity = TextCause.BadNumber
cause_of DeclFault.OutOfMemory = TextCause.OutOfMemory

-- the object of the keyword, where what is left behind the name is a number just where the keyword wants one
abbrev pub object_read : DeclKeyword → Option ℕ → Option (List ℕ) → Option Object
object_read keyword None None = object_by keyword None
object_read keyword (Some limit) (Some w) = option_and_then (λ n. object_by keyword (Some n)) (number limit w)
object_read keyword _ _ = None
