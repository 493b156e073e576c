-- Marks of the bytes in front that can't be seen, and the word that ends at the first of them.
use Rattle.std.proofs.Common.{◌≡◌, ◌≢◌, ℕ, zero, suc, ◌+◌, ◌-◌, ◌*◌, ◌/◌, ◌^◌, ◌<◌, ◌==◌, Bool, true, false, not, cond}
use Rattle.std.proofs.Common.{List, [], ◌∷◌, length, map, take, drop, get_or, position, Some, refl, sym, ap, ◌∙◌, arith}
use Rattle.std.proofs.{Math.{Nat.{div-div-eq-div-mul, two-pow-succ}, Numerals.add-one}, lemmas.Bool.Decides.nat_tests}
use Rattle.std.proofs.lemmas.List.{drop-map, length-drop, Quantifiers.position-Some}
use Rattle.std.proofs.lemmas.List.Splits.{slice_split-cons_yes, slice_split-cons_no, length-slice_split}
use Rattle.std.specs.List.{list_all, onto_first}
use lib.Count.{count_trailing_zeros}
use lib.Lanes.{chunk, mask_l}
use Rattle.race_records.specs.Name.{is_place_byte}
use Rattle.race_text.specs.{Words.{parts_of, words_of}, Form.{first_word, arguments}, Common.{IsMarked, line_in}}
use Rattle.race_text.{specs.Common.{words_in, parts_behind, CutsWord}, proofs.LaneLemmas.first_in_lanes}
use Rattle.race_text.proofs.{CutLemmas.rest_is, SeenLemmas.{seen_front, is_seen, first_onto}}

-- the first bit shifted out
halved : (b : Bool) (m : ℕ) → (cond b 1 0 + 2 * m) / 2 ≡ m
halved true m = omega arith
halved false m = omega arith

-- bits that are shifted out are those of the elements that are dropped
mask_behind : (k : ℕ) (bits : List Bool) → mask_l bits / 2 ^ k ≡ mask_l (drop k bits)
mask_behind zero bits = omega arith
mask_behind (suc k) [] = omega arith
mask_behind (suc k) (b ∷ bits) =
    (λ i. mask_l (b ∷ bits) / two k i) ∙ sym (div-div-eq-div-mul (mask_l (b ∷ bits)) 2 (2 ^ k))
    ∙ ap (λ m. m / 2 ^ k) (halved b (mask_l bits)) ∙ mask_behind k bits
  where
    two : (k : ℕ) → 2 ^ suc k ≡ 2 * 2 ^ k
    two k = let e = two-pow-succ k in omega (arith, e)

take_none : {X : Type 0} (n : ℕ) → take {A = X} n [] ≡ []
take_none zero = refl
take_none (suc n) = refl

-- what is dropped of the elements in front
drop_of_front : {X : Type 0} (n count : ℕ) (xs : List X) → drop n (take count xs) ≡ take (count - n) (drop n xs)
drop_of_front zero count xs = let same : count ≡ count - 0 = omega arith in ap (λ n. take n xs) same
drop_of_front (suc n) zero xs = let none : 0 ≡ 0 - suc n = omega arith in ap (λ k. take k (drop (suc n) xs)) none
drop_of_front (suc n) (suc count) [] = sym (take_none (suc count - suc n))
drop_of_front (suc n) (suc count) (x ∷ xs) =
    let less : count - n ≡ suc count - suc n = omega arith in
    drop_of_front n count xs ∙ ap (λ k. take k (drop n xs)) less

-- a byte of a word stays in its line
arguments_onto : (b : ℕ) (ps : List (List ℕ)) → arguments (onto_first b ps) ≡ arguments ps
arguments_onto b [] = refl
arguments_onto b (p ∷ ps) = refl

no_newline : (b : ℕ) → is_place_byte b ≡ true → (b == 10) ≡ false
no_newline b h = grind (arith, nat_tests)

no_space : (b : ℕ) → is_place_byte b ≡ true → (b == 32) ≡ false
no_space b h = grind (arith, nat_tests)

module _ (b : ℕ) (bs : List ℕ) (other : (b == 10) ≡ false) where
  line_on : line_in (b ∷ bs) ≡ b ∷ line_in bs
  line_on = ap first_word (slice_split-cons_no (λ c. c == 10) b bs other) ∙ first_onto b (parts_of bs)

  behind_on : parts_behind (b ∷ bs) ≡ parts_behind bs
  behind_on = ap arguments (slice_split-cons_no (λ c. c == 10) b bs other) ∙ arguments_onto b (parts_of bs)

words_on : (b : ℕ) (bs : List ℕ) → is_place_byte b ≡ true → words_in (b ∷ bs) ≡ onto_first b (words_in bs)
words_on b bs seen = ap (λ line. words_of line) (line_on b bs (no_newline b seen)) ∙ slice_split-cons_no (λ c. c == 32) b (line_in bs) (no_space b seen)

-- a word that a space ends
word_cut : (bytes : List ℕ) (n : ℕ) → n < length bytes → ((k : ℕ) → k < n → is_place_byte (get_or bytes k 0) ≡ true) → get_or bytes n 0 ≡ 32
    → (words_in bytes ≡ take n bytes ∷ words_in (drop (suc n) bytes)) × (parts_behind bytes ≡ parts_behind (drop (suc n) bytes))
word_cut [] n within seen space = absurd (omega (arith, within))
word_cut (b ∷ bs) zero within seen space =
    let other : (b == 10) ≡ false = ap (λ c. c == 10) space in
    (ap (λ line. words_of line) (line_on b bs other) ∙ slice_split-cons_yes (λ c. c == 32) b (line_in bs) (ap (λ c. c == 32) space), behind_on b bs other)
word_cut (b ∷ bs) (suc n) within seen space =
    let first = seen 0 (omega arith) in
    let more = word_cut bs n (omega (arith, within)) (λ k l. seen (suc k) (omega (arith, l))) space in
    (words_on b bs first ∙ ap (onto_first b) more.0, behind_on b bs (no_newline b first) ∙ more.1)

-- and one that a newline ends
last_cut : (bytes : List ℕ) (n : ℕ) → n < length bytes → ((k : ℕ) → k < n → is_place_byte (get_or bytes k 0) ≡ true) → get_or bytes n 0 ≡ 10
    → (words_in bytes ≡ take n bytes ∷ []) × (parts_behind bytes ≡ parts_of (drop (suc n) bytes))
last_cut [] n within seen newline = absurd (omega (arith, within))
last_cut (b ∷ bs) zero within seen newline =
    let cut = slice_split-cons_yes (λ c. c == 10) b bs (ap (λ c. c == 10) newline) in
    (ap (λ ps. words_of (first_word ps)) cut, ap arguments cut)
last_cut (b ∷ bs) (suc n) within seen newline =
    let first = seen 0 (omega arith) in
    let more = last_cut bs n (omega (arith, within)) (λ k l. seen (suc k) (omega (arith, l))) newline in
    (words_on b bs first ∙ ap (onto_first b) more.0, behind_on b bs (no_newline b first) ∙ more.1)

-- a text has a first part
pub first_operand_is : (bytes : List ℕ) → parts_of bytes ≡ line_in bytes ∷ parts_behind bytes
first_operand_is bytes = by (parts_of bytes) (let l = length-slice_split (λ b. b == 10) bytes in omega (arith, l))
  where
    by : (ps : List (List ℕ)) → 0 < length ps → ps ≡ first_word ps ∷ arguments ps
    by [] h = absurd (omega (arith, h))
    by (p ∷ ps) h = refl

module _ (marks : ℕ) (bytes : List ℕ) (m : IsMarked marks bytes) (some : marks ≢ 0) where
  abbrev end : ℕ
  end = count_trailing_zeros 64 marks

  some_bit : 0 < mask_l (map (λ b. not (is_place_byte b)) (chunk 0 m.count bytes))
  some_bit = let is = m.marks_are in omega (arith, is, some)

  -- the lowest mark is that of the first byte that can't be seen
  pub first_mark : position (λ b. not (is_place_byte b)) bytes ≡ Some end
  first_mark =
      first_in_lanes (λ b. not (is_place_byte b)) bytes 0 0 m.count (let w = m.within in
      omega (arith, w)) m.few (λ k below. absurd (omega (arith, below))) some_bit
      ∙ (λ i. Some (from_none (count_trailing_zeros 64 (mask_l (map (λ b. not (is_place_byte b)) (chunk 0 m.count bytes)))) i))
      ∙ ap (λ mask. Some (count_trailing_zeros 64 mask)) (sym m.marks_are)
    where
      from_none : (n : ℕ) → 0 + n ≡ n
      from_none n = omega arith

  pub within_line : end < length bytes
  within_line = (position-Some (λ b. not (is_place_byte b)) bytes end 0 first_mark).0

  pub seen_before : (k : ℕ) → k < end → is_place_byte (get_or bytes k 0) ≡ true
  seen_before k below = is_seen (is_place_byte (get_or bytes k 0)) ((position-Some (λ b. not (is_place_byte b)) bytes end 0 first_mark).2 k below)

  pub word_is_seen : list_all is_place_byte (take end bytes) ≡ true
  word_is_seen = let within = within_line in seen_front bytes end (omega (arith, within)) seen_before

  abbrev rest : List ℕ
  rest = take (length bytes - (end + 1)) (drop (end + 1) bytes)

  rest_drops : rest ≡ drop (suc end) bytes
  rest_drops = rest_is bytes (end + 1) ∙ ap (λ n. drop n bytes) (add-one end)

  pub cuts_word : get_or bytes end 0 ≡ 32 → CutsWord bytes end rest
  cuts_word space =
      let within = within_line in
      let cut = word_cut bytes end within_line seen_before space in
      record {
        within = omega (arith, within);
        is_seen = word_is_seen;
        words = cut.0 ∙ ap (λ r. take end bytes ∷ words_in r) (sym rest_drops);
        behind = cut.1 ∙ ap (λ r. parts_behind r) (sym rest_drops);
      }

  pub cuts_last : get_or bytes end 0 ≡ 10 → (words_in bytes ≡ take end bytes ∷ []) × (parts_behind bytes ≡ parts_of rest)
  cuts_last newline =
      let cut = last_cut bytes end within_line seen_before newline in
      (cut.0, cut.1 ∙ ap (λ r. parts_of r) (sym rest_drops))

  -- the marks behind the word are those of the bytes behind it
  pub rest_is_marked : IsMarked (marks / 2 ^ end / 2) rest
  rest_is_marked =
      let within = m.within in
      let few = m.few in
      let long : length rest ≡ length bytes - (end + 1) = ap length (rest_is bytes (end + 1)) ∙ length-drop (end + 1) bytes in
      let shifted : marks / 2 ^ end / 2 ≡ marks / 2 ^ (end + 1) = div-div-eq-div-mul marks (2 ^ end) 2 ∙ ap (λ d. marks / d) (doubled end) in
      record {
        count = m.count - (end + 1);
        few = omega (arith, few);
        within = omega (arith, within, long);
        marks_are =
            shifted ∙ ap (λ n. n / 2 ^ (end + 1)) m.marks_are
            ∙ mask_behind (end + 1) (map (λ b. not (is_place_byte b)) (chunk 0 m.count bytes))
            ∙ ap mask_l (drop-map (λ b. not (is_place_byte b)) (end + 1) (chunk 0 m.count bytes)
            ∙ ap (map (λ b. not (is_place_byte b))) (drop_of_front (end + 1) m.count bytes ∙ ap (take (m.count - (end + 1))) (sym (rest_is bytes (end + 1)))));
      }
    where
      doubled : (k : ℕ) → 2 ^ k * 2 ≡ 2 ^ (k + 1)
      doubled k = (let e = two-pow-succ k in omega (arith, e)) ∙ ap (λ n. 2 ^ n) (sym (add-one k))
