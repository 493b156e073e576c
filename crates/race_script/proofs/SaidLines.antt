-- A line of a body: what it says, and that no cause holds of its words.
use Rattle.std.proofs.Common.{◌≡◌, ℕ, ◌<◌, ◌==◌, ◌&&◌, Bool, true, false, true≢false, not, if◌then◌else◌, List, [], ◌∷◌}
use Rattle.std.proofs.Common.{◌++◌, length, map, Option, Some, None, Ok, refl, sym, ap, ◌∙◌, arith}
use Rattle.std.{proofs.lemmas.{Bool.Decides.{nat_tests, Decides-eqb}, Option.none-some}, specs.List.list_all}
use Rattle.std.specs.{Option.{option_and_then, option_map}, Result.{result_ok, result_err}}
use Rattle.race_records.specs.declared.{kind.{Kind.Kind, Named.Named}, operands.{Operand.Operand, OperandKind.OperandKind}}
use Rattle.race_records.specs.{Declarations.{Declaration, DeclsState, IsWellFormed, count_of}, Name.is_place}
use Rattle.race_records.specs.Operands.{operand_fits, operand_is_limited}
use Rattle.race_text.specs.{declared.{cause.TextCause.TextCause, form.Field.Field}, Fault.{fields_cause, field_cause}}
use Rattle.race_text.specs.{Form.place_fields, Meaning.operand_in, Reading.{operands_on, last_place, alone, goroutine_of}}
use Rattle.race_text.{specs.{Text.{goroutine_name, place_words}, Writing.operand_text}, proofs.CauseLemmas.and_then_some}
use Rattle.race_text.proofs.{CauseLemmas.{map_some, fine_is_ok, ok_is}, CleanLemmas.place_is_visible}
use Rattle.race_text.proofs.{EventsAgain.{operand_again, operands_again}, EventWords.{goroutine_is, goroutine_is_there}}
use Rattle.race_text.proofs.OperandWords.{is_operand, are_read, texts_are, operands_are_limited, operands_are_wanted, words_count}
use Rattle.race_text.proofs.OperandWords.{words_fine, are_there, read_suits, operands_fit as all_operands_fit}
use Rattle.race_text.proofs.PlaceWords.{ArePlaces, last_by_form, are_places, places_fine, places_are_there}
use Rattle.race_text.proofs.{WantedOperands.are_wanted, WordLemmas.both, WordsAgain.AreVisible}
use Rattle.race_script.specs.{declared.form.StepKeyword.StepKeyword, Fault.words_cause, Form.{ask_kinds, ask_fields}}
use Rattle.race_script.specs.{Form.{begin_fields, ask_by}, Program.{Instruction, ask_fits}, Reading.asked_at}
use Rattle.race_script.{specs.Reading.{before_place, asked_by_operands, asked_in, begun_in}, proofs.AskTable.SaidAsk}
use Rattle.race_script.proofs.AskTable.{ask_says, so_it_says, ask_by_says, ask_is_there, says_again, fits_are}
use Rattle.race_script.proofs.AskTable.{operands_fit}

-- no cause holds of the words just where there are as many as there have to be, and none holds of each
pub words_fine_by : (ds : List Declaration) (fields : List Field) (words : List (List ℕ)) → length words ≡ length fields → fields_cause ds fields words ≡ None
    → words_cause ds fields words ≡ None
words_fine_by ds fields words count fine =
    ap (λ b. if not b then Some TextCause.WrongCount else fields_cause ds fields words) ((Decides-eqb (length words) (length fields)).1 count) ∙ fine

pub words_are_fine : (ds : List Declaration) (fields : List Field) (words : List (List ℕ)) → words_cause ds fields words ≡ None
    → (length words ≡ length fields) × (fields_cause ds fields words ≡ None)
words_are_fine ds fields words h = by (length words == length fields) refl h
  where
    by : (b : Bool) → (length words == length fields) ≡ b → (if not b then Some TextCause.WrongCount else fields_cause ds fields words) ≡ None
        → (length words ≡ length fields) × (fields_cause ds fields words ≡ None)
    by true e h = (grind (arith, nat_tests, e), h)
    by false e h = absurd (none-some TextCause.WrongCount (sym h))

module _ (ds : List Declaration) where
  -- where nothing is wrong with the words, something is asked
  pub asked_is_there : (word : StepKeyword) (words : List (List ℕ)) → words_cause ds (ask_fields word) words ≡ None
      → (i : Instruction) × (asked_in ds word words ≡ Some i)
  asked_is_there word words h =
      let fine = words_are_fine ds (ask_fields word) words h in
      let there = are_there ds (place_fields false) (ask_kinds word) words None fine.0 fine.1 in
      let ask = ask_is_there word there.operands there.suit_is in
      let places = places_are_there ds false there.rest there.count there.fine in (
        asked_at ask.0 places.0.0,
        ap (option_and_then (asked_by_operands word)) (there.read [])
            ∙ ap (option_and_then (before_place there.rest)) ask.1
            ∙ ap (option_map (asked_at ask.0)) (ap last_place (places.2 ∙ one_place places.0 places.1) ∙ last_by_form places.0.0 places.1.first),
      )
    where
      one_place : (places : List ℕ × Option (List ℕ)) → ArePlaces false places → place_words places.0 places.1 ≡ places.0 ∷ []
      one_place (w, None) are = refl
      one_place (w, Some v) are = absurd (true≢false (sym are.count))

  -- and where `body` stands before them, a goroutine is named
  pub begun_is_there : (words : List (List ℕ)) → words_cause ds begin_fields words ≡ None → (g : ℕ) × (begun_in ds words ≡ Some g)
  unfolding field_cause
  begun_is_there [] h = absurd (none-some TextCause.WrongCount (sym h))
  begun_is_there (w ∷ v ∷ ws) h = let count = (words_are_fine ds begin_fields (w ∷ v ∷ ws) h).0 in absurd (omega (arith, count))
  begun_is_there (w ∷ []) h =
      let kind = OperandKind.Object Kind.Goroutine in
      let there = fine_is_ok (operand_in ds kind w) (words_are_fine ds begin_fields (w ∷ []) h).1 in
      let g = goroutine_is_there there.0 (read_suits ds kind w there.0 there.1) in
      (g.0, ap (λ r. option_and_then goroutine_of (result_ok r)) (there.1 ∙ ap Ok g.1))

module _ (decls : DeclsState) (holds : IsWellFormed decls) where
  abbrev ds' : List Declaration
  ds' = decls.declarations

  -- what holds of words that ask
  pub record AreAsked (word : StepKeyword) (words : List (List ℕ)) (i : Instruction) : Type 0 where
    pub operands : List Operand
    pub text : words ≡ map (operand_text ds') operands ++ i.place ∷ []
    pub says : ask_says i.ask ≡ Some (word, operands)
    pub fits : ask_fits ds' i.ask ≡ true
    pub form : is_place i.place ≡ true
    pub fine : words_cause ds' (ask_fields word) words ≡ None

  pub are_asked : (word : StepKeyword) (words : List (List ℕ)) (i : Instruction) → asked_in ds' word words ≡ Some i → AreAsked word words i
  are_asked word words i h =
      let a = and_then_some (asked_by_operands word) (operands_on ds' [] (ask_kinds word) words) i h in
      let b = and_then_some (before_place a.0.1) (ask_by word a.0.0) i a.2 in
      let c = map_some (asked_at b.0) (last_place a.0.1) i b.2 in
      let read = are_read decls holds [] (ask_kinds word) words a.0 a.1 in
      let places = are_places false a.0.1 (c.0, None) (ap (option_map alone) c.1) in
      let place : c.0 ≡ i.place = ap (λ (x : Instruction). x.place) c.2 in
      let says : ask_says i.ask ≡ Some (word, read.operands) =
      ap (λ (x : Instruction). ask_says x.ask) (sym c.2) ∙ ask_by_says word a.0.0 b.0 b.1 ∙ (λ k. Some (word, read.operands_are k)) in
      let fit : operands_fit ds' (ask_kinds word) read.operands ≡ true =
      λ k. all_operands_fit decls holds (ask_kinds word) read.ws read.operands read.are k
      && operands_are_limited decls holds (ask_kinds word) read.ws read.operands read.are k
      && operands_are_wanted decls holds (ask_kinds word) read.ws read.operands read.are k in
      let rest : a.0.1 ≡ c.0 ∷ [] = places.1 in
      let none = places_fine ds' false (c.0, None) places.0 in
      record {
        operands = read.operands;
        text = read.words_are ∙ (λ k. texts_are decls holds (ask_kinds word) read.ws read.operands read.are k ++ (places.1 ∙ ap (λ w. w ∷ []) place) k);
        says = says;
        fits = so_it_says (λ said. ask_fits ds' i.ask ≡ operands_fit ds' (ask_kinds said.0) said.1)
            (ask_says i.ask) (word, read.operands) says (fits_are ds' i.ask) ∙ fit;
        form = ap is_place (sym place) ∙ places.0.first;
        fine = words_fine_by ds' (ask_fields word) words
            (ap length (read.words_are ∙ ap (λ r. read.ws ++ r) rest)
            ∙ words_count decls holds (Field.Place ∷ []) (c.0 ∷ []) refl (ask_kinds word) read.ws read.operands read.are)
            (ap (fields_cause ds' (ask_fields word)) (read.words_are ∙ ap (λ r. read.ws ++ r) rest)
            ∙ words_fine decls holds (Field.Place ∷ []) (c.0 ∷ []) none (ask_kinds word) read.ws read.operands read.are);
      }

  -- the words of what is asked ask it, and can be seen
  pub asked_again : (i : Instruction) (said : SaidAsk) → ask_says i.ask ≡ Some said → ask_fits ds' i.ask ≡ true → is_place i.place ≡ true
      → (asked_in ds' said.0 (map (operand_text ds') said.1 ++ i.place ∷ []) ≡ Some i) × AreVisible (map (operand_text ds') said.1 ++ i.place ∷ [])
  asked_again i said says fits form =
      let word = said.0 in
      let operands = said.1 in
      let fit = so_it_says (λ said. ask_fits ds' i.ask ≡ operands_fit ds' (ask_kinds said.0) said.1) (ask_says i.ask) said says (fits_are ds' i.ask) in
      let three = both (list_all (operand_fits ds') operands && list_all operand_is_limited operands) (are_wanted ds' (ask_kinds word) operands) (sym fit ∙ fits) in
      let two = both (list_all (operand_fits ds') operands) (list_all operand_is_limited operands) three.0 in
      let again = operands_again decls holds [] (ask_kinds word) operands (i.place ∷ []) three.1 two.0 two.1 (place_is_visible i.place form, tt) in (
        ap (option_and_then (asked_by_operands word)) again.0
            ∙ ap (option_and_then (before_place (i.place ∷ [])))
            (so_it_says (λ said. ask_by said.0 said.1 ≡ Some i.ask) (ask_says i.ask) said says (says_again i.ask))
            ∙ ap (option_map (asked_at i.ask)) (last_by_form i.place form),
        again.1,
      )

  -- what holds of the word behind `body`
  pub record IsBegun (words : List (List ℕ)) (g : ℕ) : Type 0 where
    pub text : words ≡ goroutine_name ds' g ∷ []
    pub less : g < count_of Kind.Goroutine ds'
    pub fine : words_cause ds' begin_fields words ≡ None

  pub is_begun : (words : List (List ℕ)) (g : ℕ) → begun_in ds' words ≡ Some g → IsBegun words g
  unfolding field_cause
  is_begun [] g h = absurd (none-some g h)
  is_begun (w ∷ v ∷ ws) g h = absurd (none-some g h)
  is_begun (w ∷ []) g h =
      let kind = OperandKind.Object Kind.Goroutine in
      let a = and_then_some goroutine_of (result_ok (operand_in ds' kind w)) g h in
      let is = is_operand decls holds kind w (Operand.Object (Named.Goroutine g)) (ok_is (operand_in ds' kind w) a.0 a.1 ∙ ap Ok (goroutine_is a.0 g a.2)) in
      let fits = is.fits in
      record {
        text = ap (λ v. v ∷ []) is.text;
        less = grind (arith, nat_tests, fits);
        fine = words_fine_by ds' begin_fields (w ∷ []) refl (ap result_err is.says);
      }

  pub begun_again : (g : ℕ) → g < count_of Kind.Goroutine ds' → (begun_in ds' (goroutine_name ds' g ∷ []) ≡ Some g) × AreVisible (goroutine_name ds' g ∷ [])
  begun_again g less =
      let again = operand_again decls holds (OperandKind.Object Kind.Goroutine) (Operand.Object (Named.Goroutine g)) refl (grind (arith, nat_tests, less)) refl in
      (ap (λ r. option_and_then goroutine_of (result_ok r)) again.0, (again.1, tt))
