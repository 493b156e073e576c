-- A line of a common word says its event.
use Rattle.std.proofs.Common.{◌≡◌, ◌≢◌, ℕ, ◌+◌, ◌<◌, ◌≤◌, ◌-◌, ◌==◌, ◌&&◌, nat_le, not, if◌then◌else◌, length, take}
use Rattle.std.proofs.Common.{drop, get_or, arith, Bool, true, false, true≢false, sym, List, [], ◌∷◌, ◌++◌, Some, None}
use Rattle.std.proofs.{Common.{Ok, ap, ◌∙◌, Option}, lemmas.{Bool.Decides.nat_tests, List.length-take-le}}
use Rattle.std.{proofs.lemmas.Nat.trailing_le, specs.{List.list_all, Option.{option_and_then, option_map}}}
use Rattle.std.specs.Result.{result_ok}
use Rattle.race_records.specs.declared.{event.Op.Op, kind.{Kind.Kind, Named.Named}, operands.Operand.Operand}
use Rattle.race_records.specs.declared.{operands.{OperandKind.OperandKind, OpKeyword.OpKeyword}, version.Version.Version}
use Rattle.race_records.specs.{declared.name.TheConstants.MAX_PLACE_LEN, Declarations.Declaration}
use Rattle.race_records.specs.{Name.{is_place, is_place_byte}, Operands.{op_by, operand_kinds, has_two_places}}
use lib.Count.{count_trailing_zeros}
use Rattle.race_text.specs.{Words.parts_of, declared.form.Word.Word, Form.{has_word, word_named, first_word}}
use Rattle.race_text.specs.{Least.says_by, Meaning.{named_in, operand_in}, Reading.{ReadOperand, ReadOperands, ReadOp}}
use Rattle.race_text.specs.Reading.{occurrence, with_rest, first_operand, operands_on, goroutine_of, with_no_rest, last_place}
use Rattle.race_text.specs.{Reading.{op_before, op_in, last_places, event_of, event_by, event_in}, Common.IsMarked}
use Rattle.race_text.specs.Common.{words_in, CutsWord, SaysKeyword, SaysObject, SaysValue, SaysDeed, SaysPlace, SaysEvent}
use Rattle.race_text.{specs.Common.{names_object, value_kinds, value_operands}, proofs.MarkLemmas.first_operand_is}
use Rattle.race_text.proofs.{MarkLemmas.{within_line, word_is_seen, cuts_last}, WordTable.word_of_version}

-- a word of each version is one of the line
pub says_op_keyword : (bytes : List ℕ) (len : ℕ) (rest : List ℕ) (keyword : OpKeyword) → CutsWord bytes len rest → word_named (take len bytes) ≡ Some (Word.Does keyword)
    → ((version : Version) → has_word version (Word.Does keyword) ≡ true) → SaysKeyword bytes keyword rest
says_op_keyword bytes len rest keyword cut named each = record {
  says = λ version ds.
      ap (event_in version ds) cut.words
      ∙ ap (λ w. event_by ds w (words_in rest)) (word_of_version version (take len bytes) (Word.Does keyword) named (each version));
  behind = cut.behind;
}

-- a name is what it stands for, where that is wanted
object_said : (ds : List Declaration) (kind : OperandKind) (w : List ℕ) (named : Named) → names_object kind ≡ true → named_in ds kind w ≡ Ok named
    → operand_in ds kind w ≡ Ok (Operand.Object named)
object_said ds (OperandKind.Object kind) w named object h = ap (says_by Operand.Object) h
object_said ds OperandKind.RwMutex w named object h = ap (says_by Operand.Object) h
object_said ds _ w named object h = absurd (true≢false (sym object))

pub says_named : (ds : List Declaration) (kind : OperandKind) (bytes : List ℕ) (len : ℕ) (rest : List ℕ) (named : Named)
    → CutsWord bytes len rest → names_object kind ≡ true → named_in ds kind (take len bytes) ≡ Ok named → SaysObject ds kind bytes named rest
says_named ds kind bytes len rest named cut object is = record {
  says = ap (first_operand ds kind) cut.words
      ∙ ap (λ r. option_map (with_rest (words_in rest)) (result_ok r)) (object_said ds kind (take len bytes) named object is);
  behind = cut.behind;
}

is_a_place : (w : List ℕ) → 0 < length w → length w ≤ 128 → list_all is_place_byte w ≡ true → is_place w ≡ true
is_a_place w some few seen =
    let is_some : not (length w == 0) ≡ true = grind (arith, nat_tests, some) in
    let is_few : nat_le (length w) MAX_PLACE_LEN ≡ true = grind (arith, nat_tests, few) in
    λ i. is_some i && is_few i && seen i

pub says_place : (marks : ℕ) (bytes : List ℕ) (m : IsMarked marks bytes) (some : marks ≢ 0) → let end = count_trailing_zeros 64 marks in
    (end ≢ 0) × (get_or bytes end 0 ≡ 10)
    → SaysPlace bytes (take end bytes) (take (length bytes - (end + 1)) (drop (end + 1) bytes))
says_place marks bytes m some is =
    let end = count_trailing_zeros 64 marks in
    let cut = cuts_last marks bytes m some is.1 in
    let within = within_line marks bytes m some in
    let most = trailing_le 64 marks in
    let nonzero = is.0 in
    let len : length (take end bytes) ≡ end = length-take-le end bytes (omega (arith, within)) in
    let form : is_place (take end bytes) ≡ true =
    is_a_place (take end bytes) (omega (arith, len, nonzero)) (omega (arith, len, most)) (word_is_seen marks bytes m some) in
    record {
      says = ap last_place cut.0 ∙ ap (λ b. option_and_then with_no_rest (if b then Some (take end bytes, []) else None)) form;
      behind = cut.1;
    }

module _ (ds : List Declaration) (bytes objects rest : List ℕ) (keyword : OpKeyword) (kind : OperandKind) (has_value : Bool) (object : Named) where
  says_op : (op : Op) (value : Option ℕ) → operand_kinds keyword ≡ kind ∷ value_kinds has_value
      → SaysObject ds kind bytes object objects → SaysValue has_value objects value rest
      → op_by keyword (Operand.Object object ∷ value_operands value) ≡ Some op → op_in ds keyword (operand_kinds keyword) (words_in bytes) ≡ Some (op, words_in rest)
  says_op op value kinds first second is =
      ap (λ ks. op_in ds keyword ks (words_in bytes)) kinds
      ∙ ap (λ o. option_and_then (λ (operands : ReadOperands). option_map (op_before operands.1) (op_by keyword operands.0))
      (option_and_then (λ (f : ReadOperand). operands_on ds ([] ++ f.0 ∷ []) (value_kinds has_value) f.1) o)) first.says
      ∙ ap (option_and_then (λ (operands : ReadOperands). option_map (op_before operands.1) (op_by keyword operands.0))) (second.says ds (Operand.Object object ∷ []))
      ∙ ap (option_map (op_before (words_in rest))) is

  pub says_deed : (op : Op) (value : Option ℕ) → operand_kinds keyword ≡ kind ∷ value_kinds has_value
      → SaysObject ds kind bytes object objects → SaysValue has_value objects value rest
      → op_by keyword (Operand.Object object ∷ value_operands value) ≡ Some op → has_two_places keyword ≡ false → SaysDeed ds keyword bytes op rest
  says_deed op value kinds o val is one = record {
    says = says_op op value kinds o val is;
    behind = o.behind ∙ val.behind;
    one_place = one;
  }

module _ (ds : List Declaration) (bytes words whos deeds rest : List ℕ) (keyword : OpKeyword) (goroutine : Named) (who : ℕ) where
  pub says_event : (op : Op) (place : List ℕ) → SaysKeyword bytes keyword words
      → SaysObject ds (OperandKind.Object Kind.Goroutine) words goroutine whos → goroutine_of (Operand.Object goroutine) ≡ Some who
      → SaysDeed ds keyword whos op deeds → SaysPlace deeds place rest → SaysEvent ds bytes (occurrence who op (place, None)) rest
  says_event op place v g is_who d p = record {
    says = λ version.
        v.says version ds
        ∙ ap (option_and_then (λ (first : ReadOperand). option_and_then (λ who. event_of ds keyword who first.1) (goroutine_of first.0))) g.says
        ∙ ap (option_and_then (λ who. event_of ds keyword who (words_in whos))) is_who
        ∙ ap (option_and_then (λ (read : ReadOp). option_map (occurrence who read.0) (last_places (has_two_places keyword) read.1))) d.says
        ∙ ap (λ two. option_map (occurrence who op) (last_places two (words_in deeds))) d.one_place
        ∙ ap (λ l. option_map (occurrence who op) (option_map (λ w. (w, None)) l)) p.says;
    ends = first_operand_is bytes ∙ ap (λ ps. first_word (parts_of bytes) ∷ ps) (v.behind ∙ g.behind ∙ d.behind ∙ p.behind);
  }
