-- The lines of a trace, piece by piece.
use Rattle.std.proofs.Common.{◌≡◌, ℕ, List, [], ◌∷◌, ◌++◌, append_assoc, map, slice_get, unwrap_or, Option, Some, None}
use Rattle.std.proofs.{Common.{sym, ap, ◌∙◌, ◌<◌, true, length, IsTrue, arith}, lemmas.Bool.Decides.nat_tests}
use Rattle.std.{proofs.lemmas.{Grind.flat_map-append, List.Concat.flat_map-cons}, specs.{List.list_all, Fmt.decimal}}
use Rattle.race_records.specs.declared.{event.Event.Event, kind.{Named.Named, Object.Object, Kind.Kind}}
use Rattle.race_records.specs.{declared.{operands.{Operand.Operand, OpKeyword.OpKeyword}, decl_keywords.DeclKeyword.DeclKeyword}, Events.{TraceState, fits}}
use Rattle.race_records.specs.{Operands.{says, operand_fits}, Declarations.{Declaration, DeclsState, name_of, count_of}}
use Rattle.race_records.{specs.DeclKeywords.object_says, proofs.ListLemmas.flat_map-map}
use Rattle.race_text.specs.Text.{goroutine_name, place_text, second_text, place_words, text, lines, header, ended}
use Rattle.race_text.specs.{Text.{line_of, declaration_line, event_line}, Writing.{body, text_of, declaration_text}}
use Rattle.race_text.specs.Writing.{decl_keyword_text, number_words, number_end, op_keyword_text, operand_text, said_words, behind_space}
use Rattle.race_text.{specs.Writing.{operands_text, place_end}, proofs.EventLines.op_words_are}
use Rattle.race_text.proofs.WordTable.{object_words_are}

-- a line with its newline, word by word
pub ended_more : (a b : List ℕ) (rest : List (List ℕ)) → ended (line_of (a ∷ b ∷ rest)) ≡ a ++ 32 ∷ ended (line_of (b ∷ rest))
ended_more a b rest = append_assoc a (32 ∷ line_of (b ∷ rest)) (10 ∷ [])

pub line_of_2 : (a b : List ℕ) → ended (line_of (a ∷ b ∷ [])) ≡ a ++ 32 ∷ (b ++ 10 ∷ [])
line_of_2 a b = ended_more a b []

-- the line of a declaration in two pieces: its word and its name, and its number
numbered_line : (word name : List ℕ) (number : Option ℕ) → ended (line_of (word ∷ name ∷ number_words number)) ≡ (word ++ 32 ∷ name) ++ number_end number
numbered_line word name None = line_of_2 word name ∙ sym (append_assoc word (32 ∷ name) (10 ∷ []))
numbered_line word name (Some n) =
    ended_more word name (decimal n ∷ []) ∙ ap (λ l. word ++ 32 ∷ l) (line_of_2 name (decimal n))
    ∙ sym (append_assoc word (32 ∷ name) (32 ∷ decimal n ++ 10 ∷ []))

pub declaration_printed : (ds : List Declaration) (index : ℕ) (word name : List ℕ) (object : Object) (says : DeclKeyword × Option ℕ)
    → slice_get ds index ≡ Some (record { name = name; object = object })
    → says ≡ object_says object → word ≡ decl_keyword_text says.0 → (word ++ 32 ∷ name) ++ number_end says.1 ≡ declaration_text ds index
declaration_printed ds index word name object says at said spelled =
    sym (ap text_of at ∙ ap (λ ws. ended (line_of ws)) (object_words_are name object)
    ∙ ap (λ (s : DeclKeyword × Option ℕ). ended (line_of (decl_keyword_text s.0 ∷ name ∷ number_words s.1))) (sym said)
    ∙ ap (λ w. ended (line_of (w ∷ name ∷ number_words says.1))) (sym spelled) ∙ numbered_line word name says.1)

-- the operands of an operation behind a word, and the places
line_behind : (ds : List Declaration) (a : List ℕ) (operands : List Operand) (place : List ℕ) (place2 : Option (List ℕ))
    → ended (line_of (a ∷ map (operand_text ds) operands ++ place_words place place2)) ≡ a ++ (operands_text ds operands ++ place_end place place2)
line_behind ds a [] place None = line_of_2 a place
line_behind ds a [] place (Some second) = ended_more a place (second ∷ []) ∙ ap (λ l. a ++ 32 ∷ l) (line_of_2 place second)
line_behind ds a (operand ∷ operands) place place2 =
    ended_more a (operand_text ds operand) (map (operand_text ds) operands ++ place_words place place2)
    ∙ ap (λ l. a ++ 32 ∷ l) (line_behind ds (operand_text ds operand) operands place place2)
    ∙ ap (λ l. a ++ l) (sym (ap (λ l. l ++ place_end place place2) (flat_map-cons (behind_space ds) operand operands)
    ∙ append_assoc (behind_space ds operand) (operands_text ds operands) (place_end place place2)))

-- the line of an event in three pieces: its word and its goroutine, its operands, and its places
pub event_text : (decls : DeclsState) (e : Event) (word who place : List ℕ) (place2 : Option (List ℕ)) (op_keyword : OpKeyword) (operands : List Operand) → word ≡ op_keyword_text op_keyword
    → op_keyword ≡ (says e.op).0 → operands ≡ (says e.op).1
    → name_of decls.declarations (Named.Goroutine e.who) ≡ Some who → slice_get decls.places e.place ≡ Some place
    → place2 ≡ second_text decls.places e.place2
    → (word ++ 32 ∷ who) ++ (operands_text decls.declarations operands ++ place_end place place2) ≡ ended (event_line decls e)
event_text decls e word who place place2 op_keyword operands spelled op_keyword_is operands_are named at second =
    let ds = decls.declarations in
    sym (ap (λ ws. ended (line_of ws)) (op_words_are ds (goroutine_name ds e.who)
    (place_words (place_text decls.places e.place) (second_text decls.places e.place2)) e.op
    ∙ (λ i. said_words ds (unwrap_or (named i) []) (place_words (unwrap_or (at i) []) (sym second i)) (sym op_keyword_is i) (sym operands_are i)))
    ∙ ended_more (op_keyword_text op_keyword) who (map (operand_text ds) operands ++ place_words place place2)
    ∙ ap (λ l. op_keyword_text op_keyword ++ 32 ∷ l) (line_behind ds who operands place place2)
    ∙ sym (append_assoc (op_keyword_text op_keyword) (32 ∷ who) (operands_text ds operands ++ place_end place place2))
    ∙ (λ i. (sym spelled i ++ 32 ∷ who) ++ (operands_text ds operands ++ place_end place place2)))

-- the text of a trace, as it is printed
pub text_is : (t : TraceState) → text t ≡ ended (header t.decls.version) ++ body t.decls t.events
unfolding text lines
text_is t =
    let ds = t.decls.declarations in
    let line = λ (e : Event). event_line t.decls e in
    flat_map-cons ended (header t.decls.version) (map declaration_line ds ++ map line t.events)
    ∙ ap (λ l. ended (header t.decls.version) ++ l) (flat_map-append ended (map declaration_line ds) (map line t.events)
    ∙ (λ j. flat_map-map ended declaration_line ds j ++ flat_map-map ended line t.events j))

pub printed_is : (t : TraceState) (decls : DeclsState) (events : List Event) → decls ≡ t.decls → events ≡ t.events
    → ended (header decls.version) ++ body decls events ≡ text t
printed_is t decls events d e = (λ i. ended (header (d i).version) ++ body (d i) (e i)) ∙ sym (text_is t)

-- what an event that fits says of its goroutine, its place and its operands
module _ (decls : DeclsState) (e : Event) (fit : IsTrue (fits decls e)) where
  pub who_is_declared : e.who < count_of Kind.Goroutine decls.declarations
  unfolding fits
  who_is_declared = grind (arith, nat_tests)

  pub place_in_range : e.place < length decls.places
  unfolding fits
  place_in_range = grind (arith, nat_tests)

  pub operands_fit : list_all (operand_fits decls.declarations) (says e.op).1 ≡ true
  unfolding fits
  operands_fit = grind (arith, nat_tests)
