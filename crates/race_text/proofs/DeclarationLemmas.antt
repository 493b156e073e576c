-- What the words of a line say of the declaration that it is.
use Rattle.std.proofs.Common.{◌≡◌, ℕ, ◌^◌, ◌==◌, ◌<◌, ◌≤◌, ◌&&◌, Bool, true, false, not, if◌then◌else◌, nat_le, List}
use Rattle.std.proofs.Common.{[], ◌∷◌, length, Option, Some, None, is_some, ok_or, option_map, Err, refl, sym, ap}
use Rattle.std.proofs.{Common.{subst, ◌∙◌, arith, true≢false}, lemmas.Bool.Decides.nat_tests}
use Rattle.std.proofs.lemmas.List.Splits.{join_with_byte-slice_split, length-slice_split}
use Rattle.std.{proofs.lemmas.{Option.{none-some, same_Some}, Fmt.decimal_is_IsNumeral}, specs.Borrow.Bor}
use Rattle.std.specs.{List.{join_with_byte, list_all}, Str.{bytes_eq, Parse.digits_value}, Fmt.decimal}
use Rattle.std.specs.{Option.option_and_then, Result.result_err}
use Rattle.race_records.specs.{Refusal.{Refuses, AllowsUnless}, declared.declarations.DeclFault.DeclFault}
use Rattle.race_records.specs.declared.{kind.{Kind.Kind, Object.Object}, decl_keywords.DeclKeyword.DeclKeyword}
use Rattle.race_records.specs.{Name.{is_name, is_place_byte}, Declarations.{Declaration, decl_fault, find_name}}
use Rattle.race_records.specs.{Declarations.{kind_of, count_of, limit_of, is_too_wide}, DeclKeywords.{object_says, object_by}}
use Rattle.race_records.{specs.DeclKeywords.{number_limit, kind_of_decl_keyword}, proofs.DeclKeywordLaws.{IsWanted, object_is_there}}
use Rattle.race_records.proofs.DeclKeywordLaws.{object_by_says, kind_of_says, says_wanted, object_says_again}
use Rattle.race_text.specs.declared.{cause.TextCause.TextCause, form.{Field.Field, Word.Word}}
use Rattle.race_text.specs.{Words.{words_of, number, parts_left}, Form.{word_named, first_word, arguments}}
use Rattle.race_text.specs.{Form.number_fields, Fault.{or_else, field_cause, fields_cause, new_name_cause}}
use Rattle.race_text.specs.Fault.{number_behind, room_cause, word_cause, seen_so_far, declaration, declaration_in}
use Rattle.race_text.specs.{Fault.declared_as, Least.lesser, Meaning.number_in, Declaring.is_declaration_word}
use Rattle.race_text.specs.Declaring.{is_declaration_line, declaration_cause, decl_keyword_cause, object_read}
use Rattle.race_text.{specs.Writing.number_words, proofs.{WordLemmas.name_is_visible, NumberLemmas.number-some}}
use Rattle.race_text.proofs.{OperandWords.number_spelled, CauseLemmas.{lesser_none, fine_is_ok, ok_or_is}}

-- a line, by its first word and the others
module _ (line first : List ℕ) (args : List (List ℕ)) (word : Option Word) (words : words_of line ≡ first ∷ args) (named : word ≡ word_named first) where
  word_is : word_named (first_word (words_of line)) ≡ word
  word_is = ap (λ ws. word_named (first_word ws)) words ∙ sym named

  pub is_declaration_line-words : is_declaration_line line ≡ is_declaration_word word
  is_declaration_line-words = ap is_declaration_word word_is

  pub declaration_cause-words : (ds : List Declaration)
      → declaration_cause ds line ≡ (if is_declaration_word word then word_cause (seen_so_far ds 0) word args else None)
  declaration_cause-words ds = λ i. if is_declaration_word (word_is i) then word_cause (seen_so_far ds 0) (word_is i) (arguments (words i)) else None

  pub declaration_in-words : declaration_in line ≡ declared_as word args
  declaration_in-words = λ i. declared_as (word_is i) (arguments (words i))

-- a number in its limit: what it is, and how it is spelled
pub record IsNumber (limit : ℕ) (w : List ℕ) : Type 0 where
  pub n : ℕ
  pub is : number limit w ≡ Some n
  pub low : n ≤ limit
  pub value : digits_value 10 w ≡ n
  pub text : w ≡ decimal n

pub number_parts : (limit : ℕ) (w : List ℕ) (n : ℕ) → number limit w ≡ Some n → (n ≤ limit) × (digits_value 10 w ≡ n)
unfolding number
number_parts limit w n h = by (bytes_eq w (decimal (digits_value 10 w))) (nat_le (digits_value 10 w) limit) refl h
  where
    by : (b c : Bool) → nat_le (digits_value 10 w) limit ≡ c → (if b && c then Some (digits_value 10 w) else None) ≡ Some n
        → (n ≤ limit) × (digits_value 10 w ≡ n)
    by true true e h = let same = same_Some (digits_value 10 w) n h in
        (let low : digits_value 10 w ≤ limit = grind (arith, nat_tests) in omega (arith, low, same), same)
    by true false e h = absurd (none-some n h)
    by false c e h = absurd (none-some n h)

is_number : (limit : ℕ) (w : List ℕ) → result_err (number_in limit w) ≡ None → IsNumber limit w
is_number limit w h =
    let said = fine_is_ok (number_in limit w) h in
    let is = ok_or_is (number limit w) TextCause.BadNumber said.0 said.1 in
    let parts = number_parts limit w said.0 is in
    record { n = said.0; is = is; low = parts.0; value = parts.1; text = number_spelled limit w said.0 is }

-- the words behind a keyword, where no cause holds of them
pub record IsThere (ds : List Declaration) (keyword : DeclKeyword) (args : List (List ℕ)) : Type 0 where
  pub name : List ℕ
  pub others : List (List ℕ)
  pub words : args ≡ name ∷ others
  pub is_name : is_name name ≡ true
  pub object : Object
  pub by : object_by keyword (number_behind others) ≡ Some object
  pub spelled : others ≡ number_words (number_behind others)
  -- what is left in the code behind the name
  pub read : (rest : Option (Bor (List ℕ))) → parts_left 32 rest ≡ others → object_read keyword (number_limit keyword) (option_map (λ w. w.now) rest) ≡ Some object
  pub fine : decl_fault ds object name ≡ None

-- the least cause of a name of this kind, and of a number where there is a limit of it
abbrev pub named_cause : List Declaration → Kind → Option ℕ → List (List ℕ) → Option TextCause
named_cause ds kind limit args =
    if not (length args == length (Field.NewName ∷ number_fields limit)) then Some TextCause.WrongCount
    else or_else (fields_cause ds (Field.NewName ∷ number_fields limit) args) (room_cause (seen_so_far ds 0) (Some kind))

-- the words of which none holds: a name, and a number where there is a limit of it
record IsNamed (ds : List Declaration) (kind : Kind) (limit : Option ℕ) (args : List (List ℕ)) : Type 0 where
  pub name : List ℕ
  pub number : Option ℕ
  pub words : args ≡ name ∷ number_words number
  pub behind : number_behind (number_words number) ≡ number
  pub wanted : IsWanted limit number
  pub not_taken : new_name_cause ds name ≡ None
  pub room : room_cause (seen_so_far ds 0) (Some kind) ≡ None
  pub read : (keyword : DeclKeyword) (rest : Option (Bor (List ℕ))) → parts_left 32 rest ≡ number_words number
      → object_read keyword limit (option_map (λ w. w.now) rest) ≡ object_by keyword number

both_none : (a b : Option TextCause) → or_else a b ≡ None → (a ≡ None) × (b ≡ None)
both_none None b h = (refl, h)
both_none (Some c) b h = absurd (none-some c (sym h))

too_many : (m n : ℕ) (rest : Option TextCause) → n < m → (if not (m == n) then Some TextCause.WrongCount else rest) ≡ None → ⊥
too_many m n rest less h = by (m == n) (grind (arith, nat_tests)) h
  where
    by : (b : Bool) → b ≡ false → (if not b then Some TextCause.WrongCount else rest) ≡ None → ⊥
    by true e h = true≢false e
    by false e h = none-some TextCause.WrongCount (sym h)

-- what is left of the code's line, by its words
no_word_left : (rest : Option (Bor (List ℕ))) → parts_left 32 rest ≡ [] → option_map (λ w. w.now) rest ≡ None
no_word_left None e = refl
no_word_left (Some w) e = let some = length-slice_split (λ b. b == 32) w.now in let none = ap length e in absurd (omega (arith, some, none))

one_word_left : (rest : Option (Bor (List ℕ))) (w : List ℕ) → parts_left 32 rest ≡ w ∷ [] → option_map (λ w. w.now) rest ≡ Some w
one_word_left None w e = let none = ap length e in absurd (omega (arith, none))
one_word_left (Some v) w e = ap Some (sym (join_with_byte-slice_split 32 v.now) ∙ ap (join_with_byte 32) e)

is_named : (ds : List Declaration) (kind : Kind) (limit : Option ℕ) (args : List (List ℕ)) → named_cause ds kind limit args ≡ None → IsNamed ds kind limit args
unfolding field_cause
is_named ds kind None [] h = absurd (none-some TextCause.WrongCount (sym h))
is_named ds kind None (name ∷ []) h =
    let parts = both_none (new_name_cause ds name) (room_cause (seen_so_far ds 0) (Some kind)) h in
    record {
      name = name;
      number = None;
      words = refl;
      behind = refl;
      wanted = tt;
      not_taken = parts.0;
      room = parts.1;
      read = λ keyword rest e. ap (object_read keyword None) (no_word_left rest e);
    }
is_named ds kind None (name ∷ w ∷ ws) h = absurd (too_many (length (name ∷ w ∷ ws)) 1 _ (omega arith) h)
is_named ds kind (Some limit) [] h = absurd (none-some TextCause.WrongCount (sym h))
is_named ds kind (Some limit) (name ∷ []) h = absurd (none-some TextCause.WrongCount (sym h))
is_named ds kind (Some limit) (name ∷ w ∷ []) h =
    let parts = both_none (lesser (new_name_cause ds name) (result_err (number_in limit w))) (room_cause (seen_so_far ds 0) (Some kind)) h in
    let causes = lesser_none (new_name_cause ds name) (result_err (number_in limit w)) parts.0 in
    let number = is_number limit w causes.1 in
    record {
      name = name;
      number = Some number.n;
      words = λ i. name ∷ number.text i ∷ [];
      behind = ap (λ v. Some (digits_value 10 v)) (sym number.text) ∙ ap Some number.value;
      wanted = number.low;
      not_taken = causes.0;
      room = parts.1;
      read = λ keyword rest e. ap (object_read keyword (Some limit)) (one_word_left rest w (e ∙ (λ i. sym number.text i ∷ [])))
          ∙ ap (option_and_then (λ n. object_by keyword (Some n))) number.is;
    }
is_named ds kind (Some limit) (name ∷ w ∷ v ∷ ws) h = absurd (too_many (length (name ∷ w ∷ v ∷ ws)) 2 _ (omega arith) h)

-- the fault of a declaration, by the tests of its name, the room and its capacity
abbrev pub fault_by : Bool → Bool → Bool → Bool → Option DeclFault
fault_by named taken full wide =
    if not named then Some DeclFault.BadName else (if taken then Some DeclFault.Taken
    else (if full then Some DeclFault.TooMany else (if wide then Some DeclFault.BadCapacity else None)))

-- where neither the name nor the room is in its way, nothing refuses the declaration
no_fault : (a b c e : Bool) → (if not a then Some TextCause.BadName else (if b then Some TextCause.Taken else None)) ≡ None
    → (if c then Some TextCause.TooMany else None) ≡ None → e ≡ false
    → (a ≡ true) × (fault_by a b c e ≡ None)
no_fault false b c e h k narrow = absurd (none-some TextCause.BadName (sym h))
no_fault true true c e h k narrow = absurd (none-some TextCause.Taken (sym h))
no_fault true false true e h k narrow = absurd (none-some TextCause.TooMany (sym k))
no_fault true false false true h k narrow = absurd (true≢false narrow)
no_fault true false false false h k narrow = (refl, refl)

-- the kind of what a keyword makes
pub kind_made : (keyword : DeclKeyword) (number : Option ℕ) (object : Object) → object_by keyword number ≡ Some object → kind_of_decl_keyword keyword ≡ kind_of object
kind_made keyword number object e = ap (λ (says : DeclKeyword × Option ℕ). kind_of_decl_keyword says.0) (sym (object_by_says keyword number object e)) ∙ kind_of_says object

pub is_there : (ds : List Declaration) (keyword : DeclKeyword) (args : List (List ℕ)) → decl_keyword_cause ds keyword args ≡ None → IsThere ds keyword args
unfolding decl_fault
is_there ds keyword args h =
    let is = is_named ds (kind_of_decl_keyword keyword) (number_limit keyword) args h in
    let made = object_is_there keyword is.number is.wanted in
    let room = subst (λ (kind : Kind). room_cause (seen_so_far ds 0) (Some kind) ≡ None) (kind_made keyword is.number made.0 made.1) is.room in
    let fine = no_fault (is_name is.name) (is_some (find_name ds is.name))
    (nat_le (limit_of (kind_of made.0)) (count_of (kind_of made.0) ds)) (is_too_wide made.0) is.not_taken room made.2 in
    record {
      name = is.name;
      others = number_words is.number;
      words = is.words;
      is_name = fine.0;
      object = made.0;
      by = ap (object_by keyword) is.behind ∙ made.1;
      spelled = ap number_words (sym is.behind);
      read = λ rest e. is.read keyword rest e ∙ made.1;
      fine = fine.1;
    }

-- so they declare it
pub declared_there : (ds : List Declaration) (keyword : DeclKeyword) (args : List (List ℕ)) (there : IsThere ds keyword args)
    → declared_as (Some (Word.Declares keyword)) args ≡ Some (declaration there.name there.object)
declared_there ds keyword args there = ap (declared_as (Some (Word.Declares keyword))) there.words ∙ ap (option_map (declaration there.name)) there.by

-- what the code has in hand there, once it has cut off the name
pub record InHand (ds : List Declaration) (keyword : DeclKeyword) (args : List (List ℕ)) (first : List ℕ) (behind : Option (Bor (List ℕ))) : Type 0 where
  pub object : Object
  pub read : object_read keyword (number_limit keyword) (option_map (λ w. w.now) behind) ≡ Some object
  pub visible : list_all is_place_byte first ≡ true
  pub declared : declared_as (Some (Word.Declares keyword)) args ≡ Some (declaration first object)
  pub fine : decl_fault ds object first ≡ None

pub in_hand : (ds : List Declaration) (keyword : DeclKeyword) (args : List (List ℕ)) (first : List ℕ) (behind : Option (Bor (List ℕ)))
    → args ≡ first ∷ parts_left 32 behind → decl_keyword_cause ds keyword args ≡ None
    → InHand ds keyword args first behind
in_hand ds keyword args first behind split none =
    let there = is_there ds keyword args none in
    let name : there.name ≡ first = cc (there.words, split) in
    let others : parts_left 32 behind ≡ there.others = cc (there.words, split) in
    record {
      object = there.object;
      read = there.read behind others;
      visible = name_is_visible first (ap is_name (sym name) ∙ there.is_name);
      declared = declared_there ds keyword args there ∙ (λ i. Some (declaration (name i) there.object));
      fine = ap (decl_fault ds there.object) (sym name) ∙ there.fine;
    }

pub made_in_hand : (ds : List Declaration) (keyword : DeclKeyword) (args : List (List ℕ)) (first : List ℕ)
    (behind : Option (Bor (List ℕ))) (hand : InHand ds keyword args first behind) (object : Object)
    → object_read keyword (number_limit keyword) (option_map (λ w. w.now) behind) ≡ Some object
    → (declared_as (Some (Word.Declares keyword)) args ≡ Some (declaration first object)) × (decl_fault ds object first ≡ None)
made_in_hand ds keyword args first behind hand object read =
    let same = same_Some hand.object object (sym hand.read ∙ read) in
    (hand.declared ∙ (λ i. Some (declaration first (same i))), (λ i. decl_fault ds (sym same i) first) ∙ hand.fine)

-- and behind the keyword stands what the object says
pub spelled_there : (ds : List Declaration) (keyword : DeclKeyword) (args : List (List ℕ)) (there : IsThere ds keyword args)
    → (keyword ≡ (object_says there.object).0) × (args ≡ there.name ∷ number_words (object_says there.object).1)
spelled_there ds keyword args there =
    let says = object_by_says keyword (number_behind there.others) there.object there.by in (
      ap (λ (s : DeclKeyword × Option ℕ). s.0) (sym says),
      there.words ∙ (λ i. there.name ∷ there.spelled i)
          ∙ ap (λ (s : DeclKeyword × Option ℕ). there.name ∷ number_words s.1) (sym says),
    )

-- the way back: what an object says is declared again, and no cause holds of it
pub narrow_limit : (keyword : DeclKeyword) (limit : ℕ) → number_limit keyword ≡ Some limit → limit < 2 ^ 32
narrow_limit DeclKeyword.Chan limit e = let is = same_Some _ limit e in omega (arith, is)
narrow_limit _ limit e = absurd (none-some limit e)

pub small_limit : (keyword : DeclKeyword) (limit : ℕ) → number_limit keyword ≡ Some limit → limit < 2 ^ 64
small_limit DeclKeyword.Chan limit e = let is = same_Some _ limit e in omega (arith, is)
small_limit _ limit e = absurd (none-some limit e)

number_again : (limit number : Option ℕ) → IsWanted limit number → ((l : ℕ) → limit ≡ Some l → l < 2 ^ 64) → number_behind (number_words number) ≡ number
number_again None None wanted small = refl
number_again (Some l) (Some n) wanted small = let low = small l refl in ap Some (decimal_is_IsNumeral n (omega (arith, wanted, low))).1
number_again None (Some n) wanted small = absurd wanted
number_again (Some l) None wanted small = absurd wanted

fine_words : (ds : List Declaration) (kind : Kind) (limit number : Option ℕ) (name : List ℕ) → IsWanted limit number → ((l : ℕ) → limit ≡ Some l → l < 2 ^ 64)
    → new_name_cause ds name ≡ None → room_cause (seen_so_far ds 0) (Some kind) ≡ None → named_cause ds kind limit (name ∷ number_words number) ≡ None
unfolding field_cause
fine_words ds kind None None name wanted small free room = λ i. or_else (free i) (room i)
fine_words ds kind (Some l) (Some n) name wanted small free room =
    let number_fine : result_err (number_in l (decimal n)) ≡ None =
    ap (λ o. result_err (ok_or o TextCause.BadNumber)) (number-some l n (decimal n) (small l refl) wanted refl) in
    λ i. or_else (lesser (free i) (number_fine i)) (room i)
fine_words ds kind None (Some n) name wanted small free room = absurd wanted
fine_words ds kind (Some l) None name wanted small free room = absurd wanted

allowed_parts : (a b c e : Bool)
    → fault_by a b c e ≡ None
    → ((if not a then Some TextCause.BadName else (if b then Some TextCause.Taken else None)) ≡ None)
    × ((if c then Some TextCause.TooMany else None) ≡ None) × (e ≡ false)
allowed_parts false b c e h = absurd (none-some DeclFault.BadName (sym h))
allowed_parts true true c e h = absurd (none-some DeclFault.Taken (sym h))
allowed_parts true false true e h = absurd (none-some DeclFault.TooMany (sym h))
allowed_parts true false false true h = absurd (none-some DeclFault.BadCapacity (sym h))
allowed_parts true false false false h = (refl, refl, refl)

pub said_fine : (ds : List Declaration) (name : List ℕ) (object : Object) → decl_fault ds object name ≡ None
    → decl_keyword_cause ds (object_says object).0 (name ∷ number_words (object_says object).1) ≡ None
unfolding decl_fault
said_fine ds name object h =
    let keyword = (object_says object).0 in
    let parts = allowed_parts (is_name name) (is_some (find_name ds name))
    (nat_le (limit_of (kind_of object)) (count_of (kind_of object) ds)) (is_too_wide object) h in
    let room = subst (λ (kind : Kind). room_cause (seen_so_far ds 0) (Some kind) ≡ None) (sym (kind_of_says object)) parts.1 in
    fine_words ds (kind_of_decl_keyword keyword) (number_limit keyword) (object_says object).1 name (says_wanted object parts.2) (small_limit keyword) parts.0 room

pub said_again : (name : List ℕ) (object : Object) → is_too_wide object ≡ false
    → declared_as (Some (Word.Declares (object_says object).0)) (name ∷ number_words (object_says object).1) ≡ Some (declaration name object)
said_again name object narrow =
    let keyword = (object_says object).0 in
    ap (λ o. option_map (declaration name) (object_by keyword o))
    (number_again (number_limit keyword) (object_says object).1 (says_wanted object narrow) (small_limit keyword))
    ∙ ap (option_map (declaration name)) (object_says_again object)

-- a cause that is there is told
pub told_refused : (T : Type 0) {E : Type 0} (o : Option E) (e : E) → o ≡ Some e → Refuses {T = T} o (Err e)
told_refused T o e is f h = let s = same_Some e f (sym is ∙ h) in λ i. Err (s i)

pub told_allowed : (T : Type 0) {E : Type 0} (o : Option E) (e m : E) → o ≡ Some e → AllowsUnless {T = T} o (Err e) m
told_allowed T o e m is h = absurd (none-some e (sym h ∙ is))
