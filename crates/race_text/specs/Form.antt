-- The words that a line may begin with, which versions have them, and what each wants behind it.
use Rattle.std.specs.Prelude.{ℕ, Bool, true, false, if◌then◌else◌, List, [], ◌∷◌, ◌++◌, map, Option, Some, None}
use Rattle.std.specs.{Option.option_and_then, Str.bytes_eq}
use Rattle.race_records.specs.declared.{kind.{Kind.Kind, Named.Named}, operands.OperandKind.OperandKind, version.Version.Version}
use Rattle.race_records.specs.{Declarations.{Declaration, is_named, is_rw}, DeclKeywords.{number_limit, kind_of_decl_keyword}}
use Rattle.race_records.specs.Operands.{has_op_keyword, operand_kinds, has_two_places}
use Rattle.race_text.specs.declared.form.{Word.Word, Field.Field, TheConstants.WORDS}

-- what the table has at a word
abbrev pub lookup : List (List ℕ × Word) → List ℕ → Option Word
lookup [] w = None
lookup (entry ∷ entries) w = if bytes_eq w entry.0 then Some entry.1 else lookup entries w

-- what a word says that a line is which begins with it, by the table of the words of all versions in src/form.rt
unfoldable pub word_named : List ℕ → Option Word
word_named w = lookup (map (λ entry. (entry.0.now, entry.1)) WORDS) w

-- the version has the word: each has all keywords
abbrev pub has_word : Version → Word → Bool
has_word version (Word.Declares decl_keyword) = true
has_word version (Word.Does op_keyword) = has_op_keyword version op_keyword

-- this word, where the version has it
abbrev pub as_had : Version → Word → Option Word
as_had version word = if has_word version word then Some word else None

-- what the first word of a line says that the line is, in a text of this version
unfoldable pub word_in : Version → List ℕ → Option Word
word_in version w = option_and_then (as_had version) (word_named w)

-- a number, where there is a limit of it
abbrev pub number_fields : Option ℕ → List Field
number_fields None = []
number_fields (Some limit) = Field.Number limit ∷ []

-- a place, or two
abbrev pub place_fields : Bool → List Field
place_fields false = Field.Place ∷ []
place_fields true = Field.Place ∷ Field.Place ∷ []

-- what stands behind the first word: a name that is declared, with its number where it has one;
-- or a goroutine, what the operation names, and its places
abbrev pub fields_of : Word → List Field
fields_of (Word.Declares decl_keyword) = Field.NewName ∷ number_fields (number_limit decl_keyword)
fields_of (Word.Does op_keyword) = Field.Operand (OperandKind.Object Kind.Goroutine) ∷ map Field.Operand (operand_kinds op_keyword) ++ place_fields (has_two_places op_keyword)

-- what is named is an object of the kind that is wanted; which lock is an rwmutex, the declarations tell
abbrev pub is_wanted : List Declaration → OperandKind → Named → Bool
is_wanted ds (OperandKind.Object kind) named = is_named kind named
is_wanted ds OperandKind.RwMutex (Named.Lock l) = is_rw ds l
is_wanted ds _ named = false

-- the kind of what a line of the word declares, where it declares anything
abbrev pub kind_declared : Word → Option Kind
kind_declared (Word.Declares decl_keyword) = Some (kind_of_decl_keyword decl_keyword)
kind_declared (Word.Does op_keyword) = None

-- the first of the words
abbrev pub first_word : List (List ℕ) → List ℕ
first_word [] = []
first_word (w ∷ others) = w

-- the words behind the first
abbrev pub arguments : List (List ℕ) → List (List ℕ)
arguments [] = []
arguments (w ∷ others) = others
