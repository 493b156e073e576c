-- A line that says an event: it is the event's text, no cause holds of its words, and it declares nothing.
use Rattle.std.proofs.Common.{◌≡◌, ℕ, ◌<◌, true, false, List, [], ◌∷◌, ◌++◌, Option, Some, None, refl, sym, ap, subst}
use Rattle.std.proofs.{Common.{◌∙◌, arith}, lemmas.{Bool.Decides.nat_tests, List.Splits.join_with_byte-slice_split}}
use Rattle.std.{proofs.lemmas.Option.none-some, specs.List.{list_all, AllByRecursion}}
use Rattle.race_records.specs.declared.{event.Op.{Op, TheVariants.Go}, kind.Kind.Kind, operands.{OpKeyword.OpKeyword, Operand.Operand}}
use Rattle.race_records.specs.{Declarations.{Declaration, DeclsState, IsWellFormed, count_of}, Events.{op_fits, has_op}}
use Rattle.race_records.specs.{Events.{lock_fits, op_is_limited}, Operands.{says, has_op_keyword, has_two_places, operand_kinds}}
use Rattle.race_records.specs.Operands.{operand_fits, operand_is_limited}
use Rattle.race_text.specs.{declared.form.Word.Word, Words.{words_of, has_bad_byte}, Text.{line_of, op_words}}
use Rattle.race_text.specs.{Text.{goroutine_name, place_words}, Form.{word_named, word_in, first_word, arguments}}
use Rattle.race_text.specs.Fault.{seen_so_far, room_cause, word_cause, declaration_in, declared_as, is_event_line}
use Rattle.race_text.specs.{Fault.is_event_word, Reading.{Occurrence, event_by, event_in}}
use Rattle.race_text.{specs.Writing.{op_keyword_text, said_words}, proofs.CleanLemmas.{joined_clean, visible_clean}}
use Rattle.race_text.proofs.{EventWords.{is_said, said_fine}, OperandWords.{texts_are, operands_fit, operands_are_limited}}
use Rattle.race_text.proofs.{OperandWords.{operands_are_wanted, words_clean}, PlaceWords.{ArePlaces, places_clean}}
use Rattle.race_text.proofs.WantedOperands.{are_wanted, wanted_by_op}
use Rattle.race_text.proofs.WordTable.{word_spelled, word_is_seen, word_of_table}

-- the words of an event are those that its operation says
pub op_words_are : (ds : List Declaration) (who : List ℕ) (places : List (List ℕ)) (op : Op)
    → op_words ds who places op ≡ said_words ds who places (says op).0 (says op).1
op_words_are ds who places (Go h) = refl
op_words_are ds who places _ = refl

-- what holds of a line that says an event
pub record IsEventLine (decls : DeclsState) (line : List ℕ) (o : Occurrence) : Type 0 where
  pub line_is :
      line ≡ line_of (op_words decls.declarations (goroutine_name decls.declarations o.who) (place_words o.place o.place2) o.op)
  pub cause_is : (events : ℕ)
      → word_cause (seen_so_far decls.declarations events) (word_in decls.version (first_word (words_of line))) (arguments (words_of line))
      ≡ room_cause (seen_so_far decls.declarations events) None
  pub is_event : is_event_line line ≡ true
  pub declares : declaration_in line ≡ None
  pub places : ArePlaces (has_two_places (says o.op).0) (o.place, o.place2)
  pub who : o.who < count_of Kind.Goroutine decls.declarations
  pub op : op_fits decls.declarations o.op ≡ true
  pub has : has_op decls.version o.op ≡ true
  pub lock : lock_fits decls.declarations o.op ≡ true
  pub value : op_is_limited o.op ≡ true
  pub clean : has_bad_byte line ≡ false

module _ (decls : DeclsState) (holds : IsWellFormed decls) (line first : List ℕ)
    (args : List (List ℕ)) (words : words_of line ≡ first ∷ args) (o : Occurrence) where
  abbrev ds : List Declaration
  ds = decls.declarations

  joined : line ≡ line_of (first ∷ args)
  joined = sym (join_with_byte-slice_split 32 line) ∙ ap line_of words

  by_word : (word : Option Word) → word_in decls.version first ≡ word → event_by ds word args ≡ Some o → IsEventLine decls line o
  by_word None named h = absurd (none-some o h)
  by_word (Some (Word.Declares decl_keyword)) named h = absurd (none-some o h)
  by_word (Some (Word.Does op_keyword)) known h =
      let is = is_said decls holds op_keyword args o h in
      let of_table = word_of_table decls.version first (Word.Does op_keyword) known in
      let named = of_table.0 in
      let known_line : word_in decls.version (first_word (words_of line)) ≡ Some (Word.Does op_keyword) =
      ap (λ ws. word_in decls.version (first_word ws)) words ∙ known in
      let named_line : word_named (first_word (words_of line)) ≡ Some (Word.Does op_keyword) = ap (λ ws. word_named (first_word ws)) words ∙ named in
      let places = place_words o.place o.place2 in
      let all_clean = places_clean (has_two_places op_keyword) (o.place, o.place2) is.places_are in
      let who = is.who_is.fits in
      let clean : AllByRecursion (λ w. has_bad_byte w ≡ false) (first ∷ args) = (
        visible_clean first (word_is_seen first (Word.Does op_keyword) named),
        subst (λ ws. AllByRecursion (λ w. has_bad_byte w ≡ false) ws) (sym is.words_are)
            (is.who_is.clean, words_clean decls holds [] places all_clean (operand_kinds op_keyword) is.ws is.operands is.are),
      ) in
      record {
        line_is =
            joined ∙ (λ i. line_of (word_spelled first (Word.Does op_keyword) named i ∷ is.words_are i))
            ∙ (λ i. line_of (op_keyword_text op_keyword ∷ is.who_is.text i ∷ texts_are decls holds (operand_kinds op_keyword) is.ws is.operands is.are i ++ places))
            ∙ (λ i. line_of (said_words ds (goroutine_name ds o.who) places (sym is.says_is i).0 (sym is.says_is i).1))
            ∙ ap line_of (sym (op_words_are ds (goroutine_name ds o.who) places o.op));
        cause_is = λ events. (λ i. word_cause (seen_so_far ds events) (known_line i) (arguments (words i))) ∙ said_fine decls holds op_keyword args o events is;
        is_event = ap is_event_word named_line;
        declares = λ i. declared_as (named_line i) (arguments (words i));
        places = subst (λ (s : OpKeyword × List Operand). ArePlaces (has_two_places s.0) (o.place, o.place2)) (sym is.says_is) is.places_are;
        who = grind (arith, nat_tests, who);
        op = ap (λ (s : OpKeyword × List Operand). list_all (operand_fits ds) s.1) is.says_is ∙ operands_fit decls holds (operand_kinds op_keyword) is.ws is.operands is.are;
        has = ap (λ (s : OpKeyword × List Operand). has_op_keyword decls.version s.0) is.says_is ∙ of_table.1;
        lock =
            sym (wanted_by_op ds o.op) ∙ ap (λ (s : OpKeyword × List Operand). are_wanted ds (operand_kinds s.0) s.1) is.says_is
            ∙ operands_are_wanted decls holds (operand_kinds op_keyword) is.ws is.operands is.are;
        value = ap (λ (s : OpKeyword × List Operand). list_all operand_is_limited s.1) is.says_is ∙ operands_are_limited decls holds (operand_kinds op_keyword) is.ws is.operands is.are;
        clean = ap has_bad_byte joined ∙ joined_clean (first ∷ args) clean;
      }

-- a line that says an event is one
pub event_line : (decls : DeclsState) (line : List ℕ) (o : Occurrence) → IsWellFormed decls
    → event_in decls.version decls.declarations (words_of line) ≡ Some o → IsEventLine decls line o
event_line decls line o holds h = by (words_of line) refl h
  where
    by : (ws : List (List ℕ)) → words_of line ≡ ws → event_in decls.version decls.declarations ws ≡ Some o → IsEventLine decls line o
    by [] e h = absurd (none-some o h)
    by (first ∷ args) e h = by_word decls holds line first args e o (word_in decls.version first) refl h
