-- The least cause of the words behind the first, one word after another.
use Rattle.std.proofs.Common.{◌≡◌, ℕ, ◌==◌, is_none, Bor, ◌+◌, ◌<◌, ◌≤◌, List, [], ◌∷◌, length, get_or, drop, fold}
use Rattle.std.proofs.Common.{Option, Some, None, refl, sym, ◌∙◌, arith, add-one, ok_or, Result, Ok, Err, ap}
use Rattle.std.proofs.{Math.Seq.drop-cons, lemmas.{Bool.Decides.nat_tests, List.Splits.length-slice_split}}
use Rattle.std.{proofs.lemmas.Option.{none-some, same_Some}, specs.{List.zip, Option.{option_and_then, option_map}}}
use Rattle.std.specs.Result.{result_ok, result_err}
use Rattle.race_records.specs.Declarations.{Declaration}
use Rattle.race_text.specs.{declared.{cause.TextCause.TextCause, form.Field.Field}, Fault.field_cause, Least.then_says}
use Rattle.race_text.specs.{Least.{says_by, both_say, lesser}, Words.parts_left}

-- a chain that gives something did so at each step
pub and_then_some : {A B : Type 0} (f : A → Option B) (o : Option A) (y : B) → option_and_then f o ≡ Some y → (x : A) × (o ≡ Some x) × (f x ≡ Some y)
and_then_some f None y h = absurd (none-some y h)
and_then_some f (Some x) y h = (x, refl, h)

pub map_some : {A B : Type 0} (f : A → B) (o : Option A) (y : B) → option_map f o ≡ Some y → (x : A) × (o ≡ Some x) × (f x ≡ y)
map_some f None y h = absurd (none-some y h)
map_some f (Some x) y h = (x, refl, same_Some (f x) y h)

-- what a word says is no cause, and is one thing
pub ok-err : {A : Type 0} (x : A) (cause : TextCause) → Ok x ≡ Err cause → ⊥
ok-err x cause h = none-some x (sym (ap result_ok h))

pub same_Ok : {A : Type 0} (x y : A) → ◌≡◌ {A = Result A TextCause} (Ok x) (Ok y) → x ≡ y
same_Ok x y h = same_Some x y (ap result_ok h)

pub ok_is : {A : Type 0} (r : Result A TextCause) (x : A) → result_ok r ≡ Some x → r ≡ Ok x
ok_is (Ok x) y h = ap Ok (same_Some x y h)
ok_is (Err cause) y h = absurd (none-some y h)

-- a word at which no cause holds says something
pub fine_is_ok : {A : Type 0} (r : Result A TextCause) → result_err r ≡ None → (x : A) × (r ≡ Ok x)
fine_is_ok (Ok x) h = (x, refl)
fine_is_ok (Err cause) h = absurd (none-some cause (sym h))

pub ok_or_is : {A : Type 0} (o : Option A) (cause : TextCause) (x : A) → ok_or o cause ≡ Ok x → o ≡ Some x
ok_or_is (Some x) cause y h = ap Some (same_Ok x y h)
ok_or_is None cause y h = absurd (ok-err y cause (sym h))

-- so did each word of which something is made
pub then_is : {A B : Type 0} (f : A → Result B TextCause) (r : Result A TextCause) (y : B) → then_says f r ≡ Ok y → (x : A) × (r ≡ Ok x) × (f x ≡ Ok y)
then_is f (Ok x) y h = (x, refl, h)
then_is f (Err cause) y h = absurd (ok-err y cause (sym h))

pub with_is : {A B : Type 0} (f : A → B) (r : Result A TextCause) (y : B) → says_by f r ≡ Ok y → (x : A) × (r ≡ Ok x) × (f x ≡ y)
with_is f (Ok x) y h = (x, refl, same_Ok (f x) y h)
with_is f (Err cause) y h = absurd (ok-err y cause (sym h))

pub both_are : {A B C : Type 0} (f : A → B → Result C TextCause) (r : Result A TextCause) (s : Result B TextCause) (y : C) → both_say f r s ≡ Ok y
    → (a : A) × (b : B) × (r ≡ Ok a) × (s ≡ Ok b) × (f a b ≡ Ok y)
both_are f (Ok a) (Ok b) y h = (a, b, refl, refl, h)
both_are f (Ok a) (Err cause) y h = absurd (ok-err y cause (sym h))
both_are f (Err cause) (Ok b) y h = absurd (ok-err y cause (sym h))
both_are f (Err first) (Err second) y h = absurd (ok-err y _ (sym h))

-- no cause holds of a chain just where none holds of its parts
pub lesser_none : (a b : Option TextCause) → lesser a b ≡ None → (a ≡ None) × (b ≡ None)
lesser_none None b h = (refl, h)
lesser_none (Some a) None h = absurd (none-some a (sym h))
lesser_none (Some a) (Some b) h = absurd (none-some _ (sym h))

-- the least cause of what is left, after that of the fields before
abbrev pub cause_on : List Declaration → Option TextCause → List Field → List (List ℕ) → Option TextCause
cause_on ds least fields words = fold (λ cause pair. lesser cause (field_cause ds pair.0 pair.1)) least (zip fields words)

module _ (ds : List Declaration) where
  -- no word is left
  pub cause_on-no_words : (least : Option TextCause) (fields : List Field) → cause_on ds least fields [] ≡ least
  cause_on-no_words least [] = refl
  cause_on-no_words least (f ∷ fs) = refl

  -- one field and its word
  pub cause_on-more : (least : Option TextCause) (fields : List Field) (i : ℕ) (d : Field) (words : List (List ℕ)) (word : List ℕ) (others : List (List ℕ))
      → i < length fields → words ≡ word ∷ others
      → cause_on ds least (drop i fields) words ≡ cause_on ds (lesser least (field_cause ds (get_or fields i d) word)) (drop (i + 1) fields) others
  cause_on-more least fields i d words word others within e =
      (λ j. cause_on ds least (drop i fields) (e j))
      ∙ (λ j. cause_on ds least (drop-cons fields i d within j) (word ∷ others))
      ∙ (λ j. cause_on ds (lesser least (field_cause ds (get_or fields i d) word)) (drop (sym (add-one i) j) fields) others)

-- after as many cuts as are wanted, nothing is left just where there were so many words
pub counted : (left : Option (Bor (List ℕ))) (i count total : ℕ) → length (parts_left 32 left) + i ≡ total → i ≤ count → count ≤ i
    → is_none left ≡ (total == count)
counted None i count total e low high = grind (arith, nat_tests)
counted (Some rest) i count total e low high =
    let some = length-slice_split (λ b. b == 32) rest.now in
    let over : count < total = omega (arith, some, e) in
    grind (arith, nat_tests, over)
