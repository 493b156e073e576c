-- A line whose words fit has no bad byte.
use Rattle.std.proofs.Common.{◌≡◌, ℕ, ◌<◌, ◌^◌, ◌&&◌, ◌||◌, Bool, true, false, if◌then◌else◌, nat_le, List, [], ◌∷◌}
use Rattle.std.proofs.{Common.{Some, None, refl, sym, subst, ◌∙◌, arith}, lemmas.Bool.Decides.nat_tests}
use Rattle.std.proofs.lemmas.{Fmt.decimal_is_IsNumeral, List.Folds.list_any-append, Option.none-some}
use Rattle.std.{proofs.lemmas.{Str.Parse.digit_from_value, Slice.Eq.bytes_eq-Decides}, specs.Fmt.decimal}
use Rattle.std.specs.{List.{list_all, AllByRecursion}, Str.{bytes_eq, Parse.{AllDigits, digits_value}}}
use Rattle.race_records.specs.Name.{is_name, is_place, is_place_byte}
use Rattle.race_text.specs.{Words.{is_bad_byte, has_bad_byte, number}, Text.line_of}
use Rattle.race_text.proofs.WordLemmas.{both, name_is_visible}

-- words without bad bytes, with single spaces between them
pub joined_clean : (words : List (List ℕ)) → AllByRecursion (λ w. has_bad_byte w ≡ false) words → has_bad_byte (line_of words) ≡ false
joined_clean [] h = refl
joined_clean (w ∷ []) h = h.0
joined_clean (w ∷ v ∷ ws) h =
    list_any-append is_bad_byte w (32 ∷ line_of (v ∷ ws)) ∙ (λ i. h.0 i || (false || joined_clean (v ∷ ws) h.1 i))

visible_is_fine : (b : ℕ) → is_place_byte b ≡ true → is_bad_byte b ≡ false
visible_is_fine b h = grind (arith, nat_tests)

pub visible_clean : (word : List ℕ) → list_all is_place_byte word ≡ true → has_bad_byte word ≡ false
visible_clean [] h = refl
visible_clean (b ∷ bs) h = let p = both (is_place_byte b) (list_all is_place_byte bs) h in λ i. visible_is_fine b p.0 i || visible_clean bs p.1 i

pub name_clean : (word : List ℕ) → is_name word ≡ true → has_bad_byte word ≡ false
name_clean word h = visible_clean word (name_is_visible word h)

pub place_is_visible : (word : List ℕ) → is_place word ≡ true → list_all is_place_byte word ≡ true
place_is_visible word h = (both _ (list_all is_place_byte word) h).1

digits_are_visible : (word : List ℕ) → AllDigits 10 word → list_all is_place_byte word ≡ true
digits_are_visible [] h = refl
digits_are_visible (b ∷ bs) h = let d = digit_from_value b h.0 in
    let v : is_place_byte b ≡ true = grind (arith, nat_tests, d.0, d.1) in λ i. v i && digits_are_visible bs h.1 i

pub number_is_visible : (limit : ℕ) (word : List ℕ) (n : ℕ) → limit < 2 ^ 64 → number limit word ≡ Some n → list_all is_place_byte word ≡ true
unfolding number
number_is_visible limit word n small h = by (bytes_eq word (decimal (digits_value 10 word))) refl (nat_le (digits_value 10 word) limit) refl h
  where
    by : (b : Bool) → bytes_eq word (decimal (digits_value 10 word)) ≡ b → (c : Bool) → nat_le (digits_value 10 word) limit ≡ c
        → (if b && c then Some (digits_value 10 word) else None) ≡ Some n → list_all is_place_byte word ≡ true
    by true e true f h =
        let low : digits_value 10 word < 2 ^ 64 = grind (arith, nat_tests) in
        let same = (bytes_eq-Decides word (decimal (digits_value 10 word))).0 e in
        digits_are_visible word (subst (AllDigits 10) (sym same) (decimal_is_IsNumeral (digits_value 10 word) low).0.1)
    by true e false f h = absurd (none-some n h)
    by false e c f h = absurd (none-some n h)
