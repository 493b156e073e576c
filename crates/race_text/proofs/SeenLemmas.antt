-- A word that is cut at the first byte that can't be seen.
use Rattle.std.proofs.Common.{◌≡◌, ℕ, zero, suc, ◌+◌, ◌<◌, ◌≤◌, ◌==◌, ◌-◌, ◌≢◌, nat_lt, drop, ◌&&◌, ◌||◌, Bool, true}
use Rattle.std.proofs.Common.{false, not, cond, List, [], ◌∷◌, length, take, get_or, position, Some, None, is_some}
use Rattle.std.proofs.{Common.{refl, sym, ap, ◌∙◌, arith, true≢false}, lemmas.Bool.Decides.nat_tests}
use Rattle.std.proofs.lemmas.List.{Quantifiers.position-Some, Splits.slice_split-cons_no, Sums.position_or_len_is}
use Rattle.std.specs.List.{list_all, list_any, onto_first, position_or_len}
use Rattle.race_records.{specs.Name.is_place_byte, proofs.TextLemmas.list_any-absent}
use Rattle.race_text.{specs.{Words.words_of, Form.first_word}, proofs.CutLemmas.slice_split-found}

not_space : (b : ℕ) → is_place_byte b ≡ true → (b == 32) ≡ false
not_space b h = grind (arith, nat_tests)

pub is_seen : (b : Bool) → not b ≡ false → b ≡ true
is_seen true h = refl
is_seen false h = absurd (true≢false h)

is_unseen : (b : Bool) → not b ≡ true → b ≡ false
is_unseen true h = absurd (true≢false (sym h))
is_unseen false h = refl

pub first_onto : (x : ℕ) (ps : List (List ℕ)) → first_word (onto_first x ps) ≡ x ∷ first_word ps
first_onto x [] = refl
first_onto x (p ∷ ps) = refl

-- where each byte is seen, there is one word
all_seen : (bytes : List ℕ) → list_any (λ b. not (is_place_byte b)) bytes ≡ false → (list_all is_place_byte bytes ≡ true) × (words_of bytes ≡ bytes ∷ [])
all_seen [] h = (refl, refl)
all_seen (b ∷ bs) h = by (is_place_byte b) refl h (all_seen bs)
  where
    by : (t : Bool) → is_place_byte b ≡ t → (not t || list_any (λ b. not (is_place_byte b)) bs) ≡ false
        → (list_any (λ b. not (is_place_byte b)) bs ≡ false → (list_all is_place_byte bs ≡ true) × (words_of bs ≡ bs ∷ []))
        → (list_all is_place_byte (b ∷ bs) ≡ true) × (words_of (b ∷ bs) ≡ (b ∷ bs) ∷ [])
    by true e h rest =
        let r = rest h in
        ((λ i. e i && r.0 i), slice_split-cons_no (λ c. c == 32) b bs (not_space b e) ∙ ap (onto_first b) r.1)
    by false e h rest = absurd (true≢false h)

pub whole_is_word : (bytes : List ℕ) → position (λ b. not (is_place_byte b)) bytes ≡ None
    → (list_all is_place_byte bytes ≡ true) × (words_of bytes ≡ bytes ∷ [])
whole_is_word bytes h = all_seen bytes (list_any-absent (λ b. not (is_place_byte b)) bytes (ap is_some h))

pub seen_front : (bytes : List ℕ) (n : ℕ) → n ≤ length bytes → ((k : ℕ) → k < n → is_place_byte (get_or bytes k 0) ≡ true)
    → list_all is_place_byte (take n bytes) ≡ true
seen_front bytes zero within h = refl
seen_front [] (suc n) within h = refl
seen_front (b ∷ bs) (suc n) within h = λ i. h 0 (omega arith) i && seen_front bs n (omega arith) (λ k l. h (suc k) (omega arith)) i

-- the first word ends where a space is the first such byte
pub word_before_space : (bytes : List ℕ) (end : ℕ) → position (λ b. not (is_place_byte b)) bytes ≡ Some end → get_or bytes end 0 ≡ 32
    → (list_all is_place_byte (take end bytes) ≡ true) × (words_of bytes ≡ take end bytes ∷ words_of (take (length bytes - (end + 1)) (drop (end + 1) bytes)))
word_before_space bytes end found space =
    let at = position-Some (λ b. not (is_place_byte b)) bytes end 0 found in
    let seen = λ (k : ℕ) (l : k < end). is_seen (is_place_byte (get_or bytes k 0)) (at.2 k l) in
    let within = at.0 in
    let first : position_or_len (λ b. b == 32) bytes ≡ end =
    position_or_len_is (λ b. b == 32) bytes end 0 (omega (arith, within)) (λ k l. not_space (get_or bytes k 0) (seen k l)) (λ _. ap (λ b. b == 32) space) in
    let cut : position (λ b. b == 32) bytes ≡ Some end =
    (λ i. cond (nat_lt (first i) (length bytes)) (Some (first i)) None) ∙ ap (λ t. cond t (Some end) None) (below within) in
    (seen_front bytes end (omega (arith, within)) seen, slice_split-found (λ b. b == 32) bytes 0 end cut)
  where
    below : end < length bytes → nat_lt end (length bytes) ≡ true
    below h = grind (arith, nat_tests)

-- and where it is no space, the first word has a byte that can't be seen
unseen_first : (bytes : List ℕ) (n : ℕ) → n < length bytes → ((k : ℕ) → k < n → is_place_byte (get_or bytes k 0) ≡ true)
    → is_place_byte (get_or bytes n 0) ≡ false → get_or bytes n 0 ≢ 32
    → list_all is_place_byte (first_word (words_of bytes)) ≡ false
unseen_first [] n within h unseen other = absurd (omega arith)
unseen_first (b ∷ bs) zero within h unseen other =
    let no : (b == 32) ≡ false = grind (arith, nat_tests, other) in
    ap (λ ws. list_all is_place_byte (first_word ws)) (slice_split-cons_no (λ c. c == 32) b bs no)
    ∙ ap (list_all is_place_byte) (first_onto b (words_of bs)) ∙ ap (λ t. t && list_all is_place_byte (first_word (words_of bs))) unseen
unseen_first (b ∷ bs) (suc n) within h unseen other =
    let first = h 0 (omega arith) in
    ap (λ ws. list_all is_place_byte (first_word ws)) (slice_split-cons_no (λ c. c == 32) b bs (not_space b first))
    ∙ ap (list_all is_place_byte) (first_onto b (words_of bs))
    ∙ (λ i. first i && unseen_first bs n (omega arith) (λ k l. h (suc k) (omega arith)) unseen other i)

pub word_is_unseen : (bytes : List ℕ) (end : ℕ) → position (λ b. not (is_place_byte b)) bytes ≡ Some end → get_or bytes end 0 ≢ 32
    → list_all is_place_byte (first_word (words_of bytes)) ≡ false
word_is_unseen bytes end found other =
    let at = position-Some (λ b. not (is_place_byte b)) bytes end 0 found in
    unseen_first bytes end at.0 (λ k l. is_seen (is_place_byte (get_or bytes k 0)) (at.2 k l)) (is_unseen (is_place_byte (get_or bytes end 0)) at.1) other
