-- What the words of an event line say: a goroutine, the operands of an operation, and its places.
use Rattle.std.proofs.Common.{◌≡◌, ℕ, ◌==◌, Bool, true, false, not, if◌then◌else◌, List, [], ◌∷◌, ◌++◌, length, map}
use Rattle.std.proofs.Common.{suc, Option, Some, None, Ok, refl, sym, ap, subst, ◌∙◌, arith, true≢false}
use Rattle.std.proofs.lemmas.{Bool.Decides.{nat_tests, Decides-eqb}, Option.{none-some, same_Some}}
use Rattle.std.specs.{Option.{option_and_then, option_map}, Result.{result_ok, result_err}}
use Rattle.race_records.specs.declared.{event.Op.Op, kind.{Kind.Kind, Named.Named}, operands.Operand.Operand}
use Rattle.race_records.specs.declared.operands.{OperandKind.OperandKind, OpKeyword.OpKeyword}
use Rattle.race_records.specs.{Declarations.{Declaration, DeclsState, IsWellFormed}, Operands.{says, op_by, operand_kinds}}
use Rattle.race_records.{specs.Operands.{has_two_places, suits}, proofs.OperandLaws.{op_by_says, op_is_there}}
use Rattle.race_text.specs.{declared.{cause.TextCause.TextCause, form.{Field.Field, Word.Word}}, Text.place_words}
use Rattle.race_text.specs.{Form.{place_fields, fields_of, kind_declared}, Fault.{or_else, seen_so_far, field_cause}}
use Rattle.race_text.specs.{Fault.{fields_cause, room_cause, word_cause}, Reading.{Occurrence, Places, occurrence}}
use Rattle.race_text.specs.Reading.{ReadOperand, ReadOperands, with_rest, first_operand, operands_on, last_places, goroutine_of}
use Rattle.race_text.specs.{Reading.{ReadOp, op_before, event_of, event_behind}, Meaning.operand_in}
use Rattle.race_text.proofs.{CauseLemmas.{and_then_some, map_some, cause_on, fine_is_ok}, OperandWords.first_operand_is}
use Rattle.race_text.proofs.OperandWords.{read_suits, IsPart, is_operand, AreParts, are_read, words_count, words_fine}
use Rattle.race_text.proofs.{OperandWords.are_there, PlaceWords.{ArePlaces, places_read, are_places, places_count}}
use Rattle.race_text.proofs.PlaceWords.{places_fine, places_are_there}

pub goroutine_is : (operand : Operand) (n : ℕ) → goroutine_of operand ≡ Some n → operand ≡ Operand.Object (Named.Goroutine n)
goroutine_is (Operand.Object (Named.Goroutine m)) n h = ap (λ k. Operand.Object (Named.Goroutine k)) (same_Some m n h)
goroutine_is _ n h = absurd (none-some n h)

pub goroutine_is_there : (operand : Operand) → suits (OperandKind.Object Kind.Goroutine) operand ≡ true → (n : ℕ) × (operand ≡ Operand.Object (Named.Goroutine n))
goroutine_is_there (Operand.Object (Named.Goroutine n)) h = (n, refl)
goroutine_is_there _ h = absurd (true≢false (sym h))

abbrev pub a_goroutine : OperandKind
a_goroutine = OperandKind.Object Kind.Goroutine

-- an event by its operation, then its places
behind_op : OpKeyword → ℕ → List (List ℕ) → Op → Option Occurrence
behind_op keyword who rest op = option_map (occurrence who op) (last_places (has_two_places keyword) rest)

-- by its operands, then these
behind_operands : OpKeyword → ℕ → ReadOperands → Option Occurrence
behind_operands keyword who operands = option_and_then (behind_op keyword who operands.1) (op_by keyword operands.0)

event_by_operands : (ds : List Declaration) (keyword : OpKeyword) (who : ℕ) (words : List (List ℕ))
    → event_of ds keyword who words ≡ option_and_then (behind_operands keyword who) (operands_on ds [] (operand_kinds keyword) words)
unfolding behind_operands behind_op
event_by_operands ds keyword who words = by (operands_on ds [] (operand_kinds keyword) words)
  where
    inner : (rest : List (List ℕ)) (made : Option Op)
        → option_and_then (λ (read : ReadOp). behind_op keyword who read.1 read.0) (option_map (op_before rest) made)
        ≡ option_and_then (behind_op keyword who rest) made
    inner rest None = refl
    inner rest (Some op) = refl

    by : (read : Option ReadOperands)
        → option_and_then (λ (read : ReadOp). behind_op keyword who read.1 read.0)
        (option_and_then (λ (operands : ReadOperands). option_map (op_before operands.1) (op_by keyword operands.0)) read)
        ≡ option_and_then (behind_operands keyword who) read
    by None = refl
    by (Some operands) = inner operands.1 (op_by keyword operands.0)

-- what is said of an event of this word
module _ (decls : DeclsState) (holds : IsWellFormed decls) (keyword : OpKeyword) (words : List (List ℕ)) (o : Occurrence) where
  pub record IsSaid : Type 0 where
    pub who : List ℕ
    pub ws : List (List ℕ)
    pub operands : List Operand
    pub words_are : words ≡ who ∷ ws ++ place_words o.place o.place2
    pub who_is : IsPart decls holds a_goroutine who (Operand.Object (Named.Goroutine o.who))
    pub are : AreParts decls holds (operand_kinds keyword) ws operands
    pub says_is : says o.op ≡ (keyword, operands)
    pub places_are : ArePlaces (has_two_places keyword) (o.place, o.place2)

  abbrev ds : List Declaration
  ds = decls.declarations

  pub is_said : event_behind ds keyword words ≡ Some o → IsSaid
  unfolding behind_operands behind_op
  is_said h =
      let a = and_then_some (λ (first : ReadOperand). option_and_then (λ who. event_of ds keyword who first.1) (goroutine_of first.0))
      (first_operand ds a_goroutine words) o h in
      let b = and_then_some (λ who. event_of ds keyword who a.0.1) (goroutine_of a.0.0) o a.2 in
      let c = and_then_some (behind_operands keyword b.0) (operands_on ds [] (operand_kinds keyword) a.0.1) o (sym (event_by_operands ds keyword b.0 a.0.1) ∙ b.2) in
      let d = and_then_some (behind_op keyword b.0 c.0.1) (op_by keyword c.0.0) o c.2 in
      let e = map_some (occurrence b.0 d.0) (last_places (has_two_places keyword) c.0.1) o d.2 in
      let first = first_operand_is ds a_goroutine words a.0 a.1 in
      let who : a.0.0 ≡ Operand.Object (Named.Goroutine o.who) = goroutine_is a.0.0 b.0 b.1 ∙ ap (λ (x : Occurrence). Operand.Object (Named.Goroutine x.who)) e.2 in
      let read = are_read decls holds [] (operand_kinds keyword) a.0.1 c.0 c.1 in
      let places = are_places (has_two_places keyword) c.0.1 e.0 e.1 in
      record {
        who = first.0;
        ws = read.ws;
        operands = read.operands;
        words_are = first.1 ∙ (λ i. first.0 ∷ read.words_are i) ∙ (λ i. first.0 ∷ read.ws ++ places.1 i)
            ∙ (λ i. first.0 ∷ read.ws ++ place_words (e.2 i).place (e.2 i).place2);
        who_is = subst (IsPart decls holds a_goroutine first.0) who (is_operand decls holds a_goroutine first.0 a.0.0 first.2);
        are = read.are;
        says_is = ap (λ (x : Occurrence). says x.op) (sym e.2) ∙ op_by_says keyword c.0.0 d.0 d.1 ∙ (λ i. (keyword, read.operands_are i));
        places_are = subst (λ (x : Occurrence). ArePlaces (has_two_places keyword) (x.place, x.place2)) e.2 places.0;
      }

  -- no cause holds of its words
  pub said_fine : (events : ℕ) → IsSaid → word_cause (seen_so_far ds events) (Some (Word.Does keyword)) words ≡ room_cause (seen_so_far ds events) None
  unfolding field_cause
  said_fine events is =
      let two = has_two_places keyword in
      let places = place_words o.place o.place2 in
      let fields = map Field.Operand (operand_kinds keyword) ++ place_fields two in
      let args = is.ws ++ places in
      let count = (Decides-eqb (length (is.who ∷ args)) (length (fields_of (Word.Does keyword)))).1
      (ap suc (words_count decls holds (place_fields two) places (places_count two (o.place, o.place2) is.places_are) (operand_kinds keyword) is.ws is.operands is.are))
      in
      let none : cause_on ds (result_err (operand_in ds a_goroutine is.who)) fields args ≡ None =
      ap (λ r. cause_on ds (result_err r) fields args) is.who_is.says
      ∙ words_fine decls holds (place_fields two) places (places_fine ds two (o.place, o.place2) is.places_are) (operand_kinds keyword) is.ws is.operands is.are in
      (λ i. word_cause (seen_so_far ds events) (Some (Word.Does keyword)) (is.words_are i))
      ∙ (λ i. if not (count i) then Some TextCause.WrongCount else or_else (none i) (room_cause (seen_so_far ds events) None))

-- a goroutine, operands and places say the event
pub said_by : (ds : List Declaration) (keyword : OpKeyword) (g : List ℕ) (ws : List (List ℕ)) (who : ℕ) (operands : List Operand) (op : Op) (places : Places)
    → operand_in ds a_goroutine g ≡ Ok (Operand.Object (Named.Goroutine who))
    → operands_on ds [] (operand_kinds keyword) ws ≡ Some (operands, place_words places.0 places.1) → op_by keyword operands ≡ Some op
    → ArePlaces (has_two_places keyword) places → event_behind ds keyword (g ∷ ws) ≡ Some (occurrence who op places)
unfolding behind_operands behind_op
said_by ds keyword g ws who operands op places first read is are =
    ap (λ o. option_and_then (λ (first : ReadOperand). option_and_then (λ who. event_of ds keyword who first.1) (goroutine_of first.0))
    (option_map (with_rest ws) (result_ok o))) first
    ∙ event_by_operands ds keyword who ws
    ∙ ap (option_and_then (behind_operands keyword who)) read
    ∙ ap (option_and_then (behind_op keyword who (place_words places.0 places.1))) is
    ∙ ap (option_map (occurrence who op)) (places_read (has_two_places keyword) places are)

-- a later cause is looked at where no earlier one holds
pub or_else_none : (a b : Option TextCause) → or_else a b ≡ None → a ≡ None
or_else_none None b h = refl
or_else_none (Some c) b h = absurd (none-some c (sym h))

-- the right number of words
count_is : (ds : List Declaration) (events : ℕ) (word : Word) (words : List (List ℕ)) → word_cause (seen_so_far ds events) (Some word) words ≡ None
    → (length words ≡ length (fields_of word)) × (fields_cause ds (fields_of word) words ≡ None)
count_is ds events word words h = by (length words == length (fields_of word)) refl h
  where
    by : (b : Bool) → (length words == length (fields_of word)) ≡ b
        → (if not b then Some TextCause.WrongCount else or_else (fields_cause ds (fields_of word) words)
        (room_cause (seen_so_far ds events) (kind_declared word))) ≡ None
        → (length words ≡ length (fields_of word)) × (fields_cause ds (fields_of word) words ≡ None)
    by true e h = (grind (arith, nat_tests), or_else_none (fields_cause ds (fields_of word) words) (room_cause (seen_so_far ds events) (kind_declared word)) h)
    by false e h = absurd (none-some TextCause.WrongCount (sym h))

-- where no cause holds of the words, they say an event
pub event_is_there : (ds : List Declaration) (events : ℕ) (keyword : OpKeyword) (words : List (List ℕ))
    → word_cause (seen_so_far ds events) (Some (Word.Does keyword)) words ≡ None → event_behind ds keyword words ≡ None → ⊥
unfolding field_cause
event_is_there ds events keyword [] fine none = let count = (count_is ds events (Word.Does keyword) [] fine).0 in absurd (omega (arith, count))
event_is_there ds events keyword (g ∷ ws) fine none =
    let both = count_is ds events (Word.Does keyword) (g ∷ ws) fine in
    let count = both.0 in
    let there = are_there ds (place_fields (has_two_places keyword)) (operand_kinds keyword) ws (result_err (operand_in ds a_goroutine g)) (omega (arith, count)) both.1 in
    let first = fine_is_ok (operand_in ds a_goroutine g) there.before in
    let who = goroutine_is_there first.0 (read_suits ds a_goroutine g first.0 first.1) in
    let op = op_is_there keyword there.operands there.suit_is in
    let places = places_are_there ds (has_two_places keyword) there.rest there.count there.fine in
    none-some (occurrence who.0 op.0 places.0)
    (sym none ∙ said_by ds keyword g ws who.0 there.operands op.0 places.0 (first.1 ∙ ap Ok who.1)
    (there.read [] ∙ (λ i. Some (there.operands, places.2 i))) op.1 places.1)
