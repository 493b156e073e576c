-- What the words of an operation's operands say, word by word.
use Rattle.std.proofs.Common.{◌≡◌, ℕ, suc, ◌<◌, ◌-◌, ◌^◌, ◌&&◌, Bool, true, false, if◌then◌else◌, nat_lt, nat_le, List}
use Rattle.std.proofs.Common.{[], ◌∷◌, ◌++◌, length, map, Option, Some, None, Ok, refl, sym, ap, subst, ◌∙◌, arith}
use Rattle.std.proofs.{Common.{append-nil, append_assoc}, lemmas.Bool.Decides.nat_tests}
use Rattle.std.{proofs.lemmas.{Option.{none-some, same_Some}, Slice.Eq.bytes_eq-Decides}, specs.Fmt.decimal}
use Rattle.std.specs.{List.{list_all, AllByRecursion}, Option.{option_and_then, option_map}}
use Rattle.std.specs.{Result.{result_ok, result_err}, Str.{bytes_eq, Parse.digits_value}}
use Rattle.race_records.specs.declared.{kind.Named.Named, operands.{Operand.Operand, OperandKind.OperandKind}}
use Rattle.race_records.specs.{Declarations.{Declaration, DeclsState, IsWellFormed}, Operands.{suits, suit, operand_fits}}
use Rattle.race_records.specs.Operands.{operand_is_limited}
use Rattle.race_text.specs.{declared.{cause.TextCause.TextCause, form.Field.Field}, Words.{has_bad_byte, number}}
use Rattle.race_text.specs.{Form.is_wanted, Fault.field_cause, Least.{lesser, says_by}, Meaning.{named_in, value_in}}
use Rattle.race_text.specs.{Meaning.{cases_in, failure_in, operand_in}, Text.{cases_text, failure_text}, Reading.ReadOperand}
use Rattle.race_text.specs.{Reading.{ReadOperands, with_rest, first_operand, operands_on}, Writing.operand_text}
use Rattle.race_text.proofs.{CaseWords.{is_cases, cases_visible}, FailureWords.{is_failure, failure_again}}
use Rattle.race_text.proofs.CauseLemmas.{and_then_some, map_some, lesser_none, cause_on, ok_is, fine_is_ok, ok_or_is}
use Rattle.race_text.proofs.{CauseLemmas.with_is, CleanLemmas.{name_clean, visible_clean, number_is_visible}}
use Rattle.race_text.proofs.{UsedNames.{rwmutex_is_lock, is_used}, WantedOperands.{operand_is_wanted, are_wanted}}

-- a number that was read is spelled as it is printed, and is in its limit
pub number_spelled : (limit : ℕ) (w : List ℕ) (n : ℕ) → number limit w ≡ Some n → w ≡ decimal n
unfolding number
number_spelled limit w n h = by (bytes_eq w (decimal (digits_value 10 w))) refl (nat_le (digits_value 10 w) limit) h
  where
    by : (b : Bool) → bytes_eq w (decimal (digits_value 10 w)) ≡ b → (c : Bool) → (if b && c then Some (digits_value 10 w) else None) ≡ Some n → w ≡ decimal n
    by true e true h = (bytes_eq-Decides w (decimal (digits_value 10 w))).0 e ∙ ap decimal (same_Some (digits_value 10 w) n h)
    by true e false h = absurd (none-some n h)
    by false e c h = absurd (none-some n h)

pub number_within : (limit : ℕ) (w : List ℕ) (n : ℕ) → limit < 2 ^ 64 → number limit w ≡ Some n → nat_lt n (2 ^ 64) ≡ true
unfolding number
number_within limit w n small h = by (bytes_eq w (decimal (digits_value 10 w))) (nat_le (digits_value 10 w) limit) refl h
  where
    by : (b c : Bool) → nat_le (digits_value 10 w) limit ≡ c → (if b && c then Some (digits_value 10 w) else None) ≡ Some n → nat_lt n (2 ^ 64) ≡ true
    by true true e h = let same = same_Some (digits_value 10 w) n h in subst (λ k. nat_lt k (2 ^ 64) ≡ true) same (grind (arith, nat_tests, small))
    by true false e h = absurd (none-some n h)
    by false c e h = absurd (none-some n h)

-- what was read is what was wanted
pub read_suits : (ds : List Declaration) (kind : OperandKind) (w : List ℕ) (operand : Operand) → operand_in ds kind w ≡ Ok operand → suits kind operand ≡ true
read_suits ds (OperandKind.Object kind) w operand h =
    let read = with_is Operand.Object (named_in ds (OperandKind.Object kind) w) operand h in
    ap (suits (OperandKind.Object kind)) (sym read.2) ∙ (is_used ds (OperandKind.Object kind) w read.0 read.1).wanted
read_suits ds OperandKind.RwMutex w operand h =
    let read = with_is Operand.Object (named_in ds OperandKind.RwMutex w) operand h in
    ap (suits OperandKind.RwMutex) (sym read.2) ∙ rwmutex_is_lock ds read.0 (is_used ds OperandKind.RwMutex w read.0 read.1).wanted
read_suits ds OperandKind.Value w operand h = ap (suits OperandKind.Value) (sym (with_is Operand.Value (value_in w) operand h).2)
read_suits ds OperandKind.Cases w operand h = ap (suits OperandKind.Cases) (sym (with_is Operand.Cases (cases_in ds w) operand h).2)
read_suits ds OperandKind.Cause w operand h = ap (suits OperandKind.Cause) (sym (with_is Operand.Cause (failure_in ds w) operand h).2)

-- the operand that the first word says
pub first_operand_is : (ds : List Declaration) (kind : OperandKind) (words : List (List ℕ)) (first : ReadOperand) → first_operand ds kind words ≡ Some first
    → (w : List ℕ) × (words ≡ w ∷ first.1) × (operand_in ds kind w ≡ Ok first.0)
first_operand_is ds kind [] first h = absurd (none-some first h)
first_operand_is ds kind (w ∷ ws) first h =
    let one = map_some (with_rest ws) (result_ok (operand_in ds kind w)) first h in
    (w, (λ i. w ∷ (one.2 i).1), ok_is (operand_in ds kind w) one.0 one.1 ∙ ap (λ (r : ReadOperand). Ok r.0) one.2)

module _ (decls : DeclsState) (holds : IsWellFormed decls) where
  abbrev ds : List Declaration
  ds = decls.declarations

  -- what holds of a word that says an operand
  pub record IsPart (kind : OperandKind) (w : List ℕ) (operand : Operand) : Type 0 where
    pub says : operand_in ds kind w ≡ Ok operand
    pub text : w ≡ operand_text ds operand
    pub fits : operand_fits ds operand ≡ true
    pub is_limited : operand_is_limited operand ≡ true
    pub wanted : operand_is_wanted ds kind operand ≡ true
    pub clean : has_bad_byte w ≡ false

  -- of a word that names an object
  is_object : (kind : OperandKind) (w : List ℕ) (operand : Operand) → operand_in ds kind w ≡ says_by Operand.Object (named_in ds kind w)
      → ((named : Named) → operand_is_wanted ds kind (Operand.Object named) ≡ is_wanted ds kind named)
      → says_by Operand.Object (named_in ds kind w) ≡ Ok operand → IsPart kind w operand
  is_object kind w operand operand_is wants h =
      let read = with_is Operand.Object (named_in ds kind w) operand h in
      let used = is_used ds kind w read.0 read.1 in
      let less = used.declared in
      subst (IsPart kind w) read.2 (record {
        says = operand_is ∙ ap (says_by Operand.Object) read.1;
        text = used.text;
        fits = grind (arith, nat_tests, less);
        is_limited = refl;
        wanted = wants read.0 ∙ used.wanted;
        clean = name_clean w used.form;
      })

  pub is_operand : (kind : OperandKind) (w : List ℕ) (operand : Operand) → operand_in ds kind w ≡ Ok operand → IsPart kind w operand
  is_operand (OperandKind.Object kind) w operand h = is_object (OperandKind.Object kind) w operand refl (λ named. refl) h
  is_operand OperandKind.RwMutex w operand h = is_object OperandKind.RwMutex w operand refl (λ named. refl) h
  is_operand OperandKind.Value w operand h =
      let said = with_is Operand.Value (value_in w) operand h in
      let number_is = ok_or_is (number (2 ^ 64 - 1) w) TextCause.BadNumber said.0 said.1 in
      subst (IsPart OperandKind.Value w) said.2 (record {
        says = ap (says_by Operand.Value) said.1;
        text = number_spelled (2 ^ 64 - 1) w said.0 number_is;
        fits = refl;
        wanted = refl;
        is_limited = number_within (2 ^ 64 - 1) w said.0 (omega arith) number_is;
        clean = visible_clean w (number_is_visible (2 ^ 64 - 1) w said.0 (omega arith) number_is);
      })
  is_operand OperandKind.Cases w operand h =
      let read = with_is Operand.Cases (cases_in ds w) operand h in
      let is = is_cases ds w read.0 read.1 in
      subst (IsPart OperandKind.Cases w) read.2 (record {
        says = ap (says_by Operand.Cases) read.1;
        text = is.text_is;
        fits = is.fit;
        is_limited = is.few;
        wanted = refl;
        clean = ap has_bad_byte is.text_is ∙ visible_clean (cases_text ds read.0) (cases_visible decls holds read.0 is.fit);
      })
  is_operand OperandKind.Cause w operand h =
      let read = with_is Operand.Cause (failure_in ds w) operand h in
      let is = is_failure decls holds w read.0 read.1 in
      subst (IsPart OperandKind.Cause w) read.2 (record {
        says = ap (says_by Operand.Cause) read.1;
        text = is.text;
        fits = is.fits;
        is_limited = refl;
        wanted = is.lock;
        clean = ap has_bad_byte is.text ∙ visible_clean (failure_text ds read.0) (failure_again decls holds read.0 is.fits is.lock).1;
      })

  -- words that say operands of these kinds, one each
  abbrev pub AreParts : List OperandKind → List (List ℕ) → List Operand → Type 0
  AreParts [] [] [] = Unit {0}
  AreParts (kind ∷ kinds) (w ∷ ws) (operand ∷ operands) = IsPart kind w operand × AreParts kinds ws operands
  AreParts _ _ _ = ⊥

  -- what was read in turn
  pub record AreRead (got : List Operand) (kinds : List OperandKind) (words : List (List ℕ)) (read : ReadOperands) : Type 0 where
    pub ws : List (List ℕ)
    pub operands : List Operand
    pub words_are : words ≡ ws ++ read.1
    pub operands_are : read.0 ≡ got ++ operands
    pub are : AreParts kinds ws operands

  pub are_read : (got : List Operand) (kinds : List OperandKind) (words : List (List ℕ)) (read : ReadOperands) → operands_on ds got kinds words ≡ Some read
      → AreRead got kinds words read
  are_read got [] words read h =
      let same = same_Some (got, words) read h in
      record {
        ws = [];
        operands = [];
        words_are = ap (λ (r : ReadOperands). r.1) same;
        operands_are = ap (λ (r : ReadOperands). r.0) (sym same) ∙ sym (append-nil got);
        are = tt;
      }
  are_read got (kind ∷ kinds) [] read h = absurd (none-some read h)
  are_read got (kind ∷ kinds) (w ∷ ws) read h =
      let first = and_then_some (λ (first : ReadOperand). operands_on ds (got ++ first.0 ∷ []) kinds first.1)
      (option_map (with_rest ws) (result_ok (operand_in ds kind w))) read h in
      let one = map_some (with_rest ws) (result_ok (operand_in ds kind w)) first.0 first.1 in
      let others = are_read (got ++ first.0.0 ∷ []) kinds first.0.1 read first.2 in
      let operand_is : operand_in ds kind w ≡ Ok first.0.0 = ok_is (operand_in ds kind w) one.0 one.1 ∙ ap (λ (r : ReadOperand). Ok r.0) one.2 in
      record {
        ws = w ∷ others.ws;
        operands = first.0.0 ∷ others.operands;
        words_are = λ i. w ∷ (ap (λ (r : ReadOperand). r.1) one.2 ∙ others.words_are) i;
        operands_are = others.operands_are ∙ append_assoc got (first.0.0 ∷ []) others.operands;
        are = (is_operand kind w first.0.0 operand_is, others.are);
      }

  -- of the operands: their texts are the words, they are declared, in their limits, and what is wanted
  pub texts_are : (kinds : List OperandKind) (ws : List (List ℕ)) (operands : List Operand) → AreParts kinds ws operands → ws ≡ map (operand_text ds) operands
  texts_are [] [] [] are = refl
  texts_are (kind ∷ kinds) (w ∷ ws) (operand ∷ operands) are = λ i. are.0.text i ∷ texts_are kinds ws operands are.1 i
  texts_are _ _ _ are = absurd are

  pub operands_fit : (kinds : List OperandKind) (ws : List (List ℕ)) (operands : List Operand) → AreParts kinds ws operands → list_all (operand_fits ds) operands ≡ true
  operands_fit [] [] [] are = refl
  operands_fit (kind ∷ kinds) (w ∷ ws) (operand ∷ operands) are = λ i. are.0.fits i && operands_fit kinds ws operands are.1 i
  operands_fit _ _ _ are = absurd are

  pub operands_are_limited : (kinds : List OperandKind) (ws : List (List ℕ)) (operands : List Operand) → AreParts kinds ws operands → list_all operand_is_limited operands ≡ true
  operands_are_limited [] [] [] are = refl
  operands_are_limited (kind ∷ kinds) (w ∷ ws) (operand ∷ operands) are = λ i. are.0.is_limited i && operands_are_limited kinds ws operands are.1 i
  operands_are_limited _ _ _ are = absurd are

  pub operands_are_wanted : (kinds : List OperandKind) (ws : List (List ℕ)) (operands : List Operand) → AreParts kinds ws operands → are_wanted ds kinds operands ≡ true
  operands_are_wanted [] [] [] are = refl
  operands_are_wanted (kind ∷ kinds) (w ∷ ws) (operand ∷ operands) are = λ i. are.0.wanted i && operands_are_wanted kinds ws operands are.1 i
  operands_are_wanted _ _ _ are = absurd are

  -- and of the words, with others behind them: none has a bad byte or a cause, and there are as many as fields, where it is so of the others
  module _ (fields : List Field) (rest : List (List ℕ)) where
    pub words_clean : AllByRecursion (λ w. has_bad_byte w ≡ false) rest → (kinds : List OperandKind) (ws : List (List ℕ)) (operands : List Operand)
        → AreParts kinds ws operands
        → AllByRecursion (λ w. has_bad_byte w ≡ false) (ws ++ rest)
    words_clean clean [] [] [] are = clean
    words_clean clean (kind ∷ kinds) (w ∷ ws) (operand ∷ operands) are = (are.0.clean, words_clean clean kinds ws operands are.1)
    words_clean clean _ _ _ are = absurd are

    pub words_count : length rest ≡ length fields → (kinds : List OperandKind) (ws : List (List ℕ)) (operands : List Operand) → AreParts kinds ws operands
        → length (ws ++ rest) ≡ length (map Field.Operand kinds ++ fields)
    words_count count [] [] [] are = count
    words_count count (kind ∷ kinds) (w ∷ ws) (operand ∷ operands) are = ap suc (words_count count kinds ws operands are.1)
    words_count count _ _ _ are = absurd are

    pub words_fine : cause_on ds None fields rest ≡ None → (kinds : List OperandKind) (ws : List (List ℕ)) (operands : List Operand) → AreParts kinds ws operands
        → cause_on ds None (map Field.Operand kinds ++ fields) (ws ++ rest) ≡ None
    unfolding field_cause
    words_fine fine [] [] [] are = fine
    words_fine fine (kind ∷ kinds) (w ∷ ws) (operand ∷ operands) are =
        ap (λ r. cause_on ds (result_err r) (map Field.Operand kinds ++ fields) (ws ++ rest)) are.0.says ∙ words_fine fine kinds ws operands are.1
    words_fine fine _ _ _ are = absurd are

module _ (ds : List Declaration) where
  -- a cause that holds before the words is not lost
  none_before : (fields : List Field) (ws : List (List ℕ)) (least : Option TextCause) → cause_on ds least fields ws ≡ None → least ≡ None
  none_before [] ws least none = none
  none_before (f ∷ fs) [] least none = none
  none_before (f ∷ fs) (w ∷ ws) least none = (lesser_none least (field_cause ds f w) (none_before fs ws (lesser least (field_cause ds f w)) none)).0

  -- where no cause holds of the words, they say an operand each, and no cause holds of those behind them
  pub record AreThere (fields : List Field) (kinds : List OperandKind) (ws : List (List ℕ)) (least : Option TextCause) : Type 0 where
    pub before : least ≡ None
    pub operands : List Operand
    pub rest : List (List ℕ)
    pub count : length rest ≡ length fields
    pub fine : cause_on ds None fields rest ≡ None
    pub suit_is : suit kinds operands ≡ true
    pub read : (got : List Operand) → operands_on ds got kinds ws ≡ Some (got ++ operands, rest)

  pub are_there : (fields : List Field) (kinds : List OperandKind) (ws : List (List ℕ)) (least : Option TextCause)
      → length ws ≡ length (map Field.Operand kinds ++ fields)
      → cause_on ds least (map Field.Operand kinds ++ fields) ws ≡ None → AreThere fields kinds ws least
  unfolding field_cause
  are_there fields [] ws least count none =
      let before = none_before fields ws least none in
      record {
        before = before;
        operands = [];
        rest = ws;
        count = count;
        fine = ap (λ c. cause_on ds c fields ws) (sym before) ∙ none;
        suit_is = refl;
        read = λ got i. Some (sym (append-nil got) i, ws);
      }
  are_there fields (kind ∷ kinds) [] least count none = absurd (omega (arith, count))
  are_there fields (kind ∷ kinds) (w ∷ ws) least count none =
      let others = are_there fields kinds ws (lesser least (result_err (operand_in ds kind w))) (omega (arith, count)) none in
      let both = lesser_none least (result_err (operand_in ds kind w)) others.before in
      let first = fine_is_ok (operand_in ds kind w) both.1 in
      record {
        before = both.0;
        operands = first.0 ∷ others.operands;
        rest = others.rest;
        count = others.count;
        fine = others.fine;
        suit_is = λ i. read_suits ds kind w first.0 first.1 i && others.suit_is i;
        read = λ got. ap (λ o. option_and_then (λ (r : ReadOperand). operands_on ds (got ++ r.0 ∷ []) kinds r.1) (option_map (with_rest ws) (result_ok o))) first.1
            ∙ others.read (got ++ first.0 ∷ []) ∙ (λ i. Some (append_assoc got (first.0 ∷ []) others.operands i, others.rest));
      }
