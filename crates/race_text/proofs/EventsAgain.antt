-- The line of an event says the event.
use Rattle.std.proofs.Common.{◌≡◌, ℕ, ◌-◌, ◌^◌, ◌<◌, Bool, true, false, true≢false, List, [], ◌∷◌, ◌++◌, length, map}
use Rattle.std.proofs.Common.{unwrap_or, Option, Some, None, Ok, ok_or, option_map, refl, sym, ap, ◌∙◌, arith}
use Rattle.std.proofs.{Common.{append-nil, append_assoc}, lemmas.{Bool.Decides.nat_tests, Option.slice_get-get_or}}
use Rattle.std.specs.{Fmt.decimal, List.list_all, Option.option_and_then, Result.result_ok}
use Rattle.race_records.specs.declared.{event.{Event.Event, Op.Op}, kind.{Kind.Kind, Named.Named}, operands.Operand.Operand}
use Rattle.race_records.specs.{declared.operands.OperandKind.OperandKind, Name.{is_place, is_place_byte}}
use Rattle.race_records.specs.{Declarations.{Declaration, DeclsState, IsWellFormed, count_of}, Events.{fits, op_fits}}
use Rattle.race_records.specs.{Events.{has_op, lock_fits, op_is_limited, second_place_fits}, Operands.says}
use Rattle.race_records.specs.Operands.{has_two_places, operand_fits, operand_is_limited, operand_kinds}
use Rattle.race_records.proofs.OperandLaws.{says_again}
use Rattle.race_text.specs.{declared.{cause.TextCause.TextCause, form.Word.Word}, Words.words_of, Form.is_wanted}
use Rattle.race_text.specs.Text.{line_of, goroutine_name, place_text, second_text, place_words, op_words, event_line}
use Rattle.race_text.specs.Reading.{Occurrence, Places, occurrence, ReadOperand, operands_on, with_rest, event_by, event_in}
use Rattle.race_text.specs.{Least.says_by, Meaning.{named_in, operand_in}, Writing.{op_keyword_text, operand_text}}
use Rattle.race_text.proofs.{CaseWords.{cases_again, cases_visible}, FailureWords.failure_again}
use Rattle.race_text.proofs.{CleanLemmas.number_is_visible, EventLines.op_words_are, EventWords.said_by}
use Rattle.race_text.proofs.{UsedNames.used_again, WantedOperands.{operand_is_wanted, are_wanted, wanted_by_op}}
use Rattle.race_text.proofs.{PlaceWords.{ArePlaces, places_visible}, PlacesAdded.is_fit, NumberLemmas.number-some}
use Rattle.race_text.proofs.{WordLemmas.{both, name_is_visible}, WordsAgain.{AreVisible, words_again}}
use Rattle.race_text.proofs.WordTable.{op_keyword_again, op_keyword_known, word_is_seen}

-- what an event's line says
abbrev pub said : DeclsState → Event → Occurrence
said decls e = occurrence e.who e.op (place_text decls.places e.place, second_text decls.places e.place2)

module _ (decls : DeclsState) (holds : IsWellFormed decls) where
  abbrev ds : List Declaration
  ds = decls.declarations

  -- what is printed of an object says the object, and can be seen
  named_again : (kind : OperandKind) (named : Named) → is_wanted ds kind named ≡ true → operand_fits ds (Operand.Object named) ≡ true
      → (says_by Operand.Object (named_in ds kind (operand_text ds (Operand.Object named))) ≡ Ok (Operand.Object named))
      × (list_all is_place_byte (operand_text ds (Operand.Object named)) ≡ true)
  named_again kind named wanted fit =
      let again = used_again decls holds kind named wanted (grind (arith, nat_tests, fit)) in
      (ap (says_by Operand.Object) again.0, name_is_visible (operand_text ds (Operand.Object named)) again.1)

  -- of any operand
  pub operand_again : (kind : OperandKind) (operand : Operand) → operand_is_wanted ds kind operand ≡ true → operand_fits ds operand ≡ true → operand_is_limited operand ≡ true
      → (operand_in ds kind (operand_text ds operand) ≡ Ok operand) × (list_all is_place_byte (operand_text ds operand) ≡ true)
  operand_again (OperandKind.Object kind) (Operand.Object named) wanted fit low = named_again (OperandKind.Object kind) named wanted fit
  operand_again OperandKind.RwMutex (Operand.Object named) wanted fit low = named_again OperandKind.RwMutex named wanted fit
  operand_again OperandKind.Value (Operand.Value v) wanted fit low =
      let read = number-some (2 ^ 64 - 1) v (decimal v) (omega arith) (grind (arith, nat_tests, low)) refl in
      (ap (λ o. says_by Operand.Value (ok_or o TextCause.BadNumber)) read, number_is_visible (2 ^ 64 - 1) (decimal v) v (omega arith) read)
  operand_again OperandKind.Cases (Operand.Cases cases) wanted fit low =
      (ap (says_by Operand.Cases) (cases_again decls holds cases fit low), cases_visible decls holds cases fit)
  operand_again OperandKind.Cause (Operand.Cause cause) wanted fit low =
      let again = failure_again decls holds cause fit wanted in (ap (says_by Operand.Cause) again.0, again.1)
  operand_again _ _ wanted fit low = absurd (true≢false (sym wanted))

  pub operands_again : (got : List Operand) (kinds : List OperandKind) (operands : List Operand) (rest : List (List ℕ)) → are_wanted ds kinds operands ≡ true
      → list_all (operand_fits ds) operands ≡ true → list_all operand_is_limited operands ≡ true → AreVisible rest
      → (operands_on ds got kinds (map (operand_text ds) operands ++ rest) ≡ Some (got ++ operands, rest)) × AreVisible (map (operand_text ds) operands ++ rest)
  operands_again got [] [] rest wanted fit low visible = (λ i. Some (sym (append-nil got) i, rest), visible)
  operands_again got (kind ∷ kinds) (operand ∷ operands) rest wanted fit low visible =
      let wants = both (operand_is_wanted ds kind operand) (are_wanted ds kinds operands) wanted in
      let fits = both (operand_fits ds operand) (list_all (operand_fits ds) operands) fit in
      let lows = both (operand_is_limited operand) (list_all operand_is_limited operands) low in
      let first = operand_again kind operand wants.0 fits.0 lows.0 in
      let others = operands_again (got ++ operand ∷ []) kinds operands rest wants.1 fits.1 lows.1 visible in (
        ap (λ o. option_and_then (λ (r : ReadOperand). operands_on ds (got ++ r.0 ∷ []) kinds r.1)
            (option_map (with_rest (map (operand_text ds) operands ++ rest)) (result_ok o))) first.0
            ∙ others.0 ∙ (λ i. Some (append_assoc got (operand ∷ []) operands i, rest)),
        (first.1, others.1),
      )
  operands_again got _ _ rest wanted fit low visible = absurd (true≢false (sym wanted))

  -- a place that is printed has a place's form, and there are two just where there have to be
  pub place_again : (n : ℕ) → n < length decls.places → is_place (place_text decls.places n) ≡ true
  place_again n less = ap (λ o. is_place (unwrap_or o [])) (slice_get-get_or decls.places n [] less) ∙ holds.places n [] less

  places_again : (two : Bool) (n : ℕ) (second : Option ℕ) → n < length decls.places → second_place_fits (length decls.places) two second ≡ true
      → ArePlaces two (place_text decls.places n, second_text decls.places second)
  places_again false n None less fit = record { first = place_again n less; second = tt; count = refl }
  places_again true n (Some m) less fit = record { first = place_again n less; second = place_again m (grind (arith, nat_tests, fit)); count = refl }
  places_again true n None less fit = absurd (true≢false (sym fit))
  places_again false n (Some m) less fit = absurd (true≢false (sym fit))

  -- so the line of an event says it
  op_again : (who : ℕ) (places : Places) → who < count_of Kind.Goroutine ds → (op : Op) → ArePlaces (has_two_places (says op).0) places → op_fits ds op ≡ true
      → has_op decls.version op ≡ true → lock_fits ds op ≡ true → op_is_limited op ≡ true
      → event_in decls.version ds (words_of (line_of (op_words ds (goroutine_name ds who) (place_words places.0 places.1) op))) ≡ Some (occurrence who op places)
  op_again who places who_less op are fit has lock low =
      let keyword = (says op).0 in
      let operands = (says op).1 in
      let goroutine = Operand.Object (Named.Goroutine who) in
      let last = place_words places.0 places.1 in
      let args = goroutine_name ds who ∷ map (operand_text ds) operands ++ last in
      let first = operand_again (OperandKind.Object Kind.Goroutine) goroutine refl (grind (arith, nat_tests, who_less)) refl in
      let others = operands_again [] (operand_kinds keyword) operands last (wanted_by_op ds op ∙ lock) fit low (places_visible (has_two_places keyword) places are) in
      let visible : AreVisible (op_keyword_text keyword ∷ args) = (word_is_seen (op_keyword_text keyword) (Word.Does keyword) (op_keyword_again keyword), (first.1, others.1)) in
      ap (λ ws. event_in decls.version ds (words_of (line_of ws))) (op_words_are ds (goroutine_name ds who) last op)
      ∙ ap (event_in decls.version ds) (words_again (op_keyword_text keyword) args visible)
      ∙ ap (λ w. event_by ds w args) (op_keyword_known decls.version keyword has)
      ∙ said_by ds keyword (goroutine_name ds who) (map (operand_text ds) operands ++ last) who operands op places first.0 others.0 (says_again op) are

  pub event_again : (e : Event) → fits decls e ≡ true → op_is_limited e.op ≡ true
      → event_in decls.version ds (words_of (event_line decls e)) ≡ Some (said decls e)
  event_again e fit low =
      let is = is_fit decls e fit in
      let places = places_again (has_two_places (says e.op).0) e.place e.place2 is.place is.second in
      op_again e.who (place_text decls.places e.place, second_text decls.places e.place2) is.who e.op places is.op is.has is.lock low
