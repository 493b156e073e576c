-- Which words are numbers.
use Rattle.std.proofs.Common.{◌≡◌, ℕ, zero, suc, ◌⊎◌, inl, inr, ◌≢◌, ◌+◌, ◌-◌, ◌*◌, ◌<◌, ◌≤◌, ◌^◌, Bool, true, false}
use Rattle.std.proofs.Common.{◌&&◌, if◌then◌else◌, nat_le, List, length, take, get_or, Option, Some, None, refl, sym}
use Rattle.std.proofs.{Common.{ap, subst, ◌∙◌, arith, true≢false}, lemmas.Bool.Decides.nat_tests}
use Rattle.std.proofs.lemmas.Fmt.{decimal_is_IsNumeral, decimal_digit, first_decimal, decimal_nonempty}
use Rattle.std.proofs.lemmas.{Fmt.decimal-digits_value, Int.Digits.{digits_more, digits_value_more}, List.length-take}
use Rattle.std.proofs.lemmas.{Slice.Eq.bytes_eq-Decides, Str.{digit_value_digit, Parse.{digit_at, numerals_by_value}}}
use Rattle.std.{proofs.lemmas.Str.Parse.{tells_digits, digits_value_short, digits_value-take-le}, specs.Fmt.decimal}
use Rattle.std.specs.{Int.IsInRange, Str.{bytes_eq, Parse.{AllDigits, IsNumeral, digits_value}}}
use Rattle.race_text.specs.Words.{number}

-- what is no number's text is no number
pub number-none : (max : ℕ) (word : List ℕ) → ((n : ℕ) → n ≤ max → word ≡ decimal n → ⊥) → number max word ≡ None
unfolding number
number-none max word h = by (bytes_eq word (decimal (digits_value 10 word))) refl (nat_le (digits_value 10 word) max) refl
  where
    by : (b : Bool) → bytes_eq word (decimal (digits_value 10 word)) ≡ b → (c : Bool) → nat_le (digits_value 10 word) max ≡ c
        → ◌≡◌ {A = Option ℕ} (if b && c then Some (digits_value 10 word) else None) None
    by true e true f = absurd (h (digits_value 10 word) (grind (arith, nat_tests)) ((bytes_eq-Decides word (decimal (digits_value 10 word))).0 e))
    by true e false f = refl
    by false e c f = refl

-- and a number's text is it
pub number-some : (max n : ℕ) (word : List ℕ) → max < 2 ^ 64 → n ≤ max → word ≡ decimal n → number max word ≡ Some n
unfolding number
number-some max n word small low e =
    let value : digits_value 10 word ≡ n = ap (digits_value 10) e ∙ (decimal_is_IsNumeral n (omega arith)).1 in
    by (bytes_eq word (decimal (digits_value 10 word))) ((bytes_eq-Decides word (decimal (digits_value 10 word))).1 (e ∙ ap decimal (sym value)))
    (nat_le (digits_value 10 word) max) (grind (arith, nat_tests)) ∙ ap Some value
  where
    by : (b : Bool) → b ≡ true → (c : Bool) → c ≡ true → ◌≡◌ {A = Option ℕ} (if b && c then Some (digits_value 10 word) else None) (Some (digits_value 10 word))
    by true e true f = refl
    by true e false f = absurd (true≢false (sym f))
    by false e c f = absurd (true≢false (sym e))

-- a leading zero stands alone, where the code has tested so
pub zero_alone : (word : List ℕ) → 0 < length word → (((get_or word 0 0 ≡ 48) × (length word ≤ 1)) ⊎ (get_or word 0 0 ≢ 48)) → get_or word 0 0 ≡ 48
    → length word ≡ 1
zero_alone word some (inl short) h = let s = short.1 in omega (arith, s, some)
zero_alone word some (inr other) h = absurd (other h)

module _ (max : ℕ) (word : List ℕ) (small : max < 2 ^ 64) where
  digits_of_text : (n : ℕ) → n ≤ max → word ≡ decimal n → IsNumeral 10 word × (digits_value 10 word ≡ n)
  digits_of_text n low e = subst (λ w. IsNumeral 10 w × (digits_value 10 w ≡ n)) (sym e) (decimal_is_IsNumeral n (omega arith))

  pub number-empty : length word ≡ 0 → number max word ≡ None
  number-empty h = number-none max word (λ n low e. let d = decimal_nonempty n (omega arith) in let l = ap length e in omega arith)

  pub number-zero : get_or word 0 0 ≡ 48 → 1 < length word → number max word ≡ None
  number-zero h long = number-none max word (λ n low e. by n low e)
    where
      by : (n : ℕ) → n ≤ max → word ≡ decimal n → ⊥
      by zero low e = let l = ap length (e ∙ decimal_digit 0 (omega arith)) in omega arith
      by (suc n) low e =
          let first = first_decimal (suc n) (omega arith) (omega arith) in
          let same : get_or word 0 0 ≡ get_or (decimal (suc n)) 0 0 = λ i. get_or (e i) 0 0 in
          omega (arith, first, same, h)

  -- a byte that is no digit, or a digit with which the value is too great
  pub number-stops : (i value : ℕ) → i < length word → value ≡ digits_value 10 (take i word)
      → ((IsInRange 48 57 (get_or word i 0) × (value * 10 + (get_or word i 0 - 48) < 2 ^ 64)) → ⊥) → number max word ≡ None
  number-stops i value within is stops =
      number-none max word (λ n low e.
      let d = digits_of_text n low e in
      let digit = digit_at word i d.0.1 within in
      let more = digits_value_more 10 word i within in
      let digit_is = digit_value_digit (get_or word i 0) digit in
      let front = digits_value-take-le 10 word (i + 1) (omega arith) in
      stops (digit, omega (arith, is, low, d.1, more, digit_is, front)))

  -- what the digits say, where a leading zero stands alone
  module _ (alone : get_or word 0 0 ≡ 48 → length word ≡ 1) (value : ℕ) (some : 0 < length word) (digits : AllDigits 10 word)
      (is : value ≡ digits_value 10 word) where
    pub number-read : value ≤ max → number max word ≡ Some value
    number-read low =
        let model = numerals_by_value (AllDigits 10) tells_digits in
        number-some max value word small low (sym (decimal-digits_value model word digits some alone (omega (arith, is, low))) ∙ ap decimal (sym is))

    pub number-over : max < value → number max word ≡ None
    number-over over = number-none max word (λ n low e. let d = digits_of_text n low e in omega (arith, d.1, is))

-- one more digit
pub digits_go_on : (word : List ℕ) (i value more : ℕ) → i < length word → AllDigits 10 (take i word) → value ≡ digits_value 10 (take i word)
    → IsInRange 48 57 (get_or word i 0) → more ≡ value * 10 + (get_or word i 0 - 48)
    → AllDigits 10 (take (i + 1) word) × (more ≡ digits_value 10 (take (i + 1) word))
digits_go_on word i value more within digits is digit more_is =
    let digit_is = digit_value_digit (get_or word i 0) digit in
    (digits_more 10 word i within digits (omega (arith, digit_is, digit.1)), omega (arith, is, more_is, digits_value_more 10 word i within, digit_is, digit.0))

-- of fewer than 20 digits each further one fits
pub digits_fit : (word : List ℕ) (i value : ℕ) → i < length word → length word < 20 → AllDigits 10 (take i word) → value ≡ digits_value 10 (take i word)
    → value * 10 + 9 < 2 ^ 64
digits_fit word i value within few digits is =
    let model = numerals_by_value (AllDigits 10) tells_digits in
    let long = length-take i word in
    let low = digits_value_short model (take i word) 18 digits (omega (arith, within, few, long)) in
    omega (arith, is, low)
