-- Short names by their keys: two names with one key are the same.
use Rattle.std.proofs.Common.{◌≡◌, ℕ, zero, suc, ◌+◌, ◌-◌, ◌*◌, ◌^◌, ◌%◌, min, get_or, bit_and, ◌<◌, ◌≤◌, nat_lt}
use Rattle.std.proofs.Common.{nat_le, eqb, cond, not, Bool, true, false, true≢false, if◌then◌else◌, List, [], ◌∷◌, ◌++◌}
use Rattle.std.proofs.Common.{length, take, drop, position, slice_get, option_map, Option, Some, None, IsNone, refl}
use Rattle.std.proofs.{Common.{sym, ap, subst, ◌∙◌, arith, w64}, Math.Nat.{mul-le-mul_right, pow-suc, pow-le-pow_right}}
use Rattle.std.proofs.Math.Nat.{mod-eq_of_lt, add-mul-mod_self_right, mul_assoc}
use Rattle.std.proofs.lemmas.{Nat.{le_bytes_8, and_mask, pow-add}, List.{length-take-le, length-drop, get_or-take}}
use Rattle.std.proofs.lemmas.List.{get_or_past, drop-take, drop_all, get_or-drop, ext_get_or, length-append}
use Rattle.std.proofs.lemmas.List.{Folds.position_or_len_push, Quantifiers.position-Some, Elements.All-weaker}
use Rattle.std.proofs.lemmas.{Bool.Decides.nat_tests, Option.{none-some, same_Some, cond_some}}
use Rattle.std.{proofs.lemmas.Slice.Eq.bytes_eq-Decides, specs.Int.{from_le_bytes, to_le_bytes, sum_through}}
use Rattle.std.specs.{Int.byte_worth, List.position_or_len, Option.option_and_then, Str.bytes_eq}
use Rattle.race_records.specs.{declared.{names.Slot.Slot, shorts.{Key.Key, Short.Short}}, Tables.{Row, row, slot_named}}
use Rattle.race_records.specs.Shorts.{front_of, back_of, short_key, key_in, AreBytes, IsNoted, AreNoted}
use Rattle.race_records.proofs.ListLemmas.{slice_get-push_within, slice_get-push_last}

-- a number of eight bytes tells each of them
pub first_eight : List ℕ → List ℕ
first_eight xs =
    get_or xs 0 0 ∷ get_or xs 1 0 ∷ get_or xs 2 0 ∷ get_or xs 3 0 ∷ get_or xs 4 0 ∷ get_or xs 5 0 ∷ get_or xs 6 0 ∷ get_or xs 7 0 ∷ []

are_bytes : (xs : List ℕ) → AreBytes xs → AreBytes (first_eight xs)
unfolding first_eight
are_bytes xs bytes zero = bytes 0
are_bytes xs bytes (suc zero) = bytes 1
are_bytes xs bytes (suc (suc zero)) = bytes 2
are_bytes xs bytes (suc (suc (suc zero))) = bytes 3
are_bytes xs bytes (suc (suc (suc (suc zero)))) = bytes 4
are_bytes xs bytes (suc (suc (suc (suc (suc zero))))) = bytes 5
are_bytes xs bytes (suc (suc (suc (suc (suc (suc zero)))))) = bytes 6
are_bytes xs bytes (suc (suc (suc (suc (suc (suc (suc zero))))))) = bytes 7
are_bytes xs bytes (suc (suc (suc (suc (suc (suc (suc (suc i)))))))) = omega arith

-- what holds of each number up to eight
up_to_eight : (P : ℕ → Type 0) → P 0 → P 1 → P 2 → P 3 → P 4 → P 5 → P 6 → P 7 → P 8 → (i : ℕ) → i ≤ 8 → P i
up_to_eight P p0 p1 p2 p3 p4 p5 p6 p7 p8 zero h = p0
up_to_eight P p0 p1 p2 p3 p4 p5 p6 p7 p8 (suc zero) h = p1
up_to_eight P p0 p1 p2 p3 p4 p5 p6 p7 p8 (suc (suc zero)) h = p2
up_to_eight P p0 p1 p2 p3 p4 p5 p6 p7 p8 (suc (suc (suc zero))) h = p3
up_to_eight P p0 p1 p2 p3 p4 p5 p6 p7 p8 (suc (suc (suc (suc zero)))) h = p4
up_to_eight P p0 p1 p2 p3 p4 p5 p6 p7 p8 (suc (suc (suc (suc (suc zero))))) h = p5
up_to_eight P p0 p1 p2 p3 p4 p5 p6 p7 p8 (suc (suc (suc (suc (suc (suc zero)))))) h = p6
up_to_eight P p0 p1 p2 p3 p4 p5 p6 p7 p8 (suc (suc (suc (suc (suc (suc (suc zero))))))) h = p7
up_to_eight P p0 p1 p2 p3 p4 p5 p6 p7 p8 (suc (suc (suc (suc (suc (suc (suc (suc zero)))))))) h = p8
up_to_eight P p0 p1 p2 p3 p4 p5 p6 p7 p8 (suc (suc (suc (suc (suc (suc (suc (suc (suc i))))))))) h = absurd (omega (arith, h))

module _ (xs ys : List ℕ) (bx : AreBytes xs) (by : AreBytes ys) (same : from_le_bytes w64 xs ≡ from_le_bytes w64 ys) where
  same_eight : first_eight xs ≡ first_eight ys
  unfolding first_eight
  same_eight =
      sym (le_bytes_8 (first_eight xs) (from_le_bytes w64 xs) refl (are_bytes xs bx) refl) ∙ ap (to_le_bytes w64) same
      ∙ le_bytes_8 (first_eight ys) (from_le_bytes w64 ys) refl (are_bytes ys by) refl

  same_byte : (i : ℕ) → i < 8 → get_or xs i 0 ≡ get_or ys i 0
  unfolding first_eight
  same_byte i h = up_to_eight (λ i. i < 8 → get_or xs i 0 ≡ get_or ys i 0) (at 0) (at 1) (at 2)
      (at 3) (at 4) (at 5) (at 6) (at 7) (λ h. absurd (omega (arith, h))) i (omega (arith, h)) h
    where
      at : (i : ℕ) → i < 8 → get_or (first_eight xs) i 0 ≡ get_or (first_eight ys) i 0
      at i h = ap (λ l. get_or l i 0) same_eight

pub bytes_in_take : (k : ℕ) (name : List ℕ) → AreBytes name → AreBytes (take k name)
bytes_in_take zero name bytes i = omega arith
bytes_in_take (suc k) [] bytes i = bytes i
bytes_in_take (suc k) (x ∷ xs) bytes zero = bytes zero
bytes_in_take (suc k) (x ∷ xs) bytes (suc i) = bytes_in_take k xs (λ j. bytes (suc j)) i

bytes_in_drop : (k : ℕ) (name : List ℕ) → AreBytes name → AreBytes (drop k name)
bytes_in_drop k name bytes i = subst (λ (n : ℕ). n < 256) (sym (get_or-drop k name i 0)) (bytes (k + i))

-- names of one length with one front and one back are the same
same_parts : (a b : List ℕ) → AreBytes a → AreBytes b → length a ≡ length b → length a ≤ 16 → front_of a ≡ front_of b → back_of a ≡ back_of b → a ≡ b
same_parts a b ba bb same few front back = ext_get_or 0 a b same (λ i within. at i within (nat_lt i 8) refl)
  where
    at : (i : ℕ) → i < length a → (early : Bool) → nat_lt i 8 ≡ early → get_or a i 0 ≡ get_or b i 0
    at i within true is = same_byte a b ba bb front i (grind (arith, nat_tests, is))
    at i within false is =
        let late : 8 ≤ i = grind (arith, nat_tests, is) in
        let sum : 8 + (i - 8) ≡ i = omega (arith, late) in
        ap (λ j. get_or a j 0) (sym sum) ∙ sym (get_or-drop 8 a (i - 8) 0)
        ∙ same_byte (drop 8 a) (drop 8 b) (bytes_in_drop 8 a ba) (bytes_in_drop 8 b bb) back (i - 8) (omega (arith, within, few, late))
        ∙ get_or-drop 8 b (i - 8) 0 ∙ ap (λ j. get_or b j 0) sum

-- a number of n + 1 bytes is below 256 ^ (n + 1)
bytes_below : (b : ℕ → ℕ) → ((i : ℕ) → b i < 256) → (n : ℕ) → sum_through (λ i. byte_worth i (b i)) n < 256 ^ suc n
bytes_below b bytes zero = omega (arith, bytes 0)
bytes_below b bytes (suc n) =
    let lower = bytes_below b bytes n in
    let most : b (suc n) * 256 ^ suc n ≤ 255 * 256 ^ suc n = mul-le-mul_right (256 ^ suc n) (omega (arith, bytes (suc n))) in
    let more = pow-suc 256 (suc n) in
    omega (arith, lower, most, more)

bits_of_bytes : (k : ℕ) → 256 ^ k ≡ 2 ^ (8 * k)
bits_of_bytes zero = refl
bits_of_bytes (suc k) =
    let sum : 8 * k + 8 ≡ 8 * suc k = omega arith in
    pow-suc 256 k ∙ ap (λ x. x * 256) (bits_of_bytes k) ∙ sym (pow-add 2 (8 * k) 8) ∙ ap (λ j. 2 ^ j) sum

-- what a number leaves by 256 ^ k are its k lowest bytes
module _ (b c : ℕ → ℕ) (bytes : (i : ℕ) → b i < 256) (k : ℕ) (same : (i : ℕ) → nat_lt i k ≡ true → c i ≡ b i)
    (none : (i : ℕ) → nat_le k i ≡ true → nat_lt i 8 ≡ true → c i ≡ 0) where
  abbrev AreLowest : ℕ → Type 0
  AreLowest n = sum_through (λ i. byte_worth i (b i)) n % 256 ^ k ≡ sum_through (λ i. byte_worth i (c i)) n

  fits : (n : ℕ) → n < k → sum_through (λ i. byte_worth i (b i)) n % 256 ^ k ≡ sum_through (λ i. byte_worth i (b i)) n
  fits n less =
      let below = bytes_below b bytes n in
      let most : 256 ^ suc n ≤ 256 ^ k = pow-le-pow_right (omega arith) (omega (arith, less)) in
      mod-eq_of_lt (omega (arith, below, most))

  lowest : (n : ℕ) → n < 8 → AreLowest n
  lowest zero few = by (nat_lt 0 k) refl
    where
      by : (t : Bool) → nat_lt 0 k ≡ t → AreLowest 0
      by true is = let less : 0 < k = grind (arith, nat_tests, is) in fits 0 less ∙ sym (same 0 is)
      by false is =
          let zero_bytes : k ≡ 0 = grind (arith, nat_tests, is) in
          let rest = none 0 (grind (arith, nat_tests, is)) refl in
          let one = ap (λ j. 256 ^ j) zero_bytes in
          omega (arith, rest, one)
  lowest (suc n) few = by (lowest n (omega (arith, few))) (nat_lt (suc n) k) refl
    where
      by : AreLowest n → (t : Bool) → nat_lt (suc n) k ≡ t → AreLowest (suc n)
      by lower true is =
          let less : suc n < k = grind (arith, nat_tests, is) in
          let front = sym (fits n (omega (arith, less))) ∙ lower in
          let last = ap (byte_worth (suc n)) (sym (same (suc n) is)) in
          fits (suc n) less ∙ ap (λ x. x + byte_worth (suc n) (b (suc n))) front ∙ ap (λ x. sum_through (λ i. byte_worth i (c i)) n + x) last
      by lower false is =
          let behind : k ≤ suc n = grind (arith, nat_tests, is) in
          let early : nat_lt (suc n) 8 ≡ true = grind (arith, nat_tests, few) in
          let last = ap (byte_worth (suc n)) (none (suc n) (grind (arith, nat_tests, behind)) early) in
          let sum : suc n - k + k ≡ suc n = omega (arith, behind) in
          let whole : b (suc n) * 256 ^ suc n ≡ b (suc n) * 256 ^ (suc n - k) * 256 ^ k =
          ap (λ j. b (suc n) * 256 ^ j) (sym sum) ∙ ap (λ x. b (suc n) * x) (pow-add 256 (suc n - k) k)
          ∙ sym (mul_assoc (b (suc n)) (256 ^ (suc n - k)) (256 ^ k)) in
          ap (λ x. (sum_through (λ i. byte_worth i (b i)) n + x) % 256 ^ k) whole
          ∙ add-mul-mod_self_right (sum_through (λ i. byte_worth i (b i)) n) (b (suc n) * 256 ^ (suc n - k)) (256 ^ k)
          ∙ lower ∙ omega (arith, last)

-- so it is cut out of more bytes
pub cut_front : (bytes : List ℕ) (k : ℕ) → AreBytes bytes → k ≤ length bytes
    → bit_and (from_le_bytes w64 bytes) (2 ^ (8 * min k 8) - 1) ≡ from_le_bytes w64 (take k bytes)
cut_front bytes k are within =
    and_mask (from_le_bytes w64 bytes) (8 * min k 8) ∙ ap (λ m. from_le_bytes w64 bytes % m) (sym (bits_of_bytes (min k 8)))
    ∙ lowest (λ i. get_or bytes i 0) (λ i. get_or (take k bytes) i 0) are (min k 8)
    (λ i h. get_or-take k bytes i 0 (before i h)) (λ i h early. get_or_past (take k bytes) i 0 (behind i h early)) 7 (omega arith)
  where
    before : (i : ℕ) → nat_lt i (min k 8) ≡ true → i < k
    before i h = let l : i < min k 8 = grind (arith, nat_tests, h) in omega (arith, l)

    behind : (i : ℕ) → nat_le (min k 8) i ≡ true → nat_lt i 8 ≡ true → length (take k bytes) ≤ i
    behind i h early =
        let l : min k 8 ≤ i = grind (arith, nat_tests, h) in
        let e : i < 8 = grind (arith, nat_tests, early) in
        omega (arith, l, e, length-take-le k bytes within)

-- and so are the eight behind them
pub cut_back : (bytes : List ℕ) (k : ℕ) → AreBytes bytes → k ≤ length bytes → 8 ≤ length bytes
    → bit_and (from_le_bytes w64 (drop 8 bytes)) (2 ^ (8 * min (k - 8) 8) - 1) ≡ from_le_bytes w64 (drop 8 (take k bytes))
cut_back bytes k are within enough =
    cut_front (drop 8 bytes) (k - 8) (bytes_in_drop 8 bytes are) (omega (arith, within, length-drop 8 bytes))
    ∙ ap (from_le_bytes w64) (behind (nat_le 8 k) refl)
  where
    behind : (b : Bool) → nat_le 8 k ≡ b → take (k - 8) (drop 8 bytes) ≡ drop 8 (take k bytes)
    behind true is =
        let long : 8 ≤ k = grind (arith, nat_tests, is) in
        sym (drop-take 8 (k - 8) bytes) ∙ ap (λ j. drop 8 (take j bytes)) (omega (arith, long))
    behind false is =
        let short : k ≤ 8 = grind (arith, nat_tests, is) in
        let none : k - 8 ≡ 0 = omega (arith, short) in
        ap (λ j. take j (drop 8 bytes)) none ∙ sym (drop_all 8 (take k bytes) (omega (arith, length-take-le k bytes within, short)))

-- the key of a name in front of more bytes
pub key_cut : (bytes : List ℕ) (k e f g h : ℕ) → AreBytes bytes → 16 ≤ length bytes → k ≤ 16
    → e ≡ from_le_bytes w64 bytes → f ≡ 2 ^ (8 * min k 8) - 1 → g ≡ from_le_bytes w64 (drop 8 bytes) → h ≡ 2 ^ (8 * min (k - 8) 8) - 1
    → short_key (take k bytes) ≡ Some (record { len = k; front = bit_and e f; back = bit_and g h })
key_cut bytes k e f g h are enough few es fs gs hs =
    let within : k ≤ length bytes = omega (arith, enough, few) in
    let len = length-take-le k bytes within in
    let small : nat_le (length (take k bytes)) 16 ≡ true = grind (arith, nat_tests, len, few) in
    let front : front_of (take k bytes) ≡ bit_and e f = sym (cut_front bytes k are within) ∙ (λ i. bit_and (sym es i) (sym fs i)) in
    let back : back_of (take k bytes) ≡ bit_and g h = sym (cut_back bytes k are within (omega (arith, enough))) ∙ (λ i. bit_and (sym gs i) (sym hs i)) in
    λ i. if small i then Some (record { len = len i; front = front i; back = back i }) else None

-- what a key is
keyed : (name : List ℕ) (key : Key) → short_key name ≡ Some key
    → (record { len = length name; front = front_of name; back = back_of name } ≡ key) × (length name ≤ 16)
keyed name key is = by (nat_le (length name) 16) refl is
  where
    by : (b : Bool) → nat_le (length name) 16 ≡ b
        → (if b then Some (record { len = length name; front = front_of name; back = back_of name }) else None) ≡ Some key
        → (record { len = length name; front = front_of name; back = back_of name } ≡ key) × (length name ≤ 16)
    by true few is = (same_Some _ key is, grind (arith, nat_tests, few))
    by false many is = absurd (none-some key is)

pub same_key : (a b : List ℕ) (key : Key) → AreBytes a → AreBytes b → short_key a ≡ Some key → short_key b ≡ Some key → a ≡ b
same_key a b key ba bb is also =
    let p = keyed a key is in
    let q = keyed b key also in
    let e = p.0 ∙ sym q.0 in
    same_parts a b ba bb (ap (λ (k : Key). k.len) e) p.1 (ap (λ (k : Key). k.front) e) (ap (λ (k : Key). k.back) e)

-- no name is as long as what stands in a blank slot
pub blank_noted : (rows : List Row) (short : Short) → short.len ≡ 255 → IsNoted rows short
blank_noted rows short blank = λ name bytes is.
    let p = keyed name (key_in short) is in
    let len = ap (λ (k : Key). k.len) p.0 in
    let few = p.1 in
    absurd (omega (arith, len, few, blank))

-- a name that is noted with what it stands for
pub short_noted : (rows : List Row) (name : List ℕ) (short : Short) → AreBytes name → short_key name ≡ Some (key_in short)
    → slot_named name rows ≡ Some short.slot
    → IsNoted rows short
short_noted rows name short bytes is named = λ other fit also.
    subst (λ (n : List ℕ). slot_named n rows ≡ Some short.slot) (same_key name other (key_in short) bytes fit is also) named

at_most : (p : Row → Bool) (rows : List Row) → position_or_len p rows ≤ length rows
at_most p [] = omega arith
at_most p (r ∷ rows) = by (not (p r)) (at_most p rows)
  where
    by : (b : Bool) → position_or_len p rows ≤ length rows → cond b (1 + position_or_len p rows) 0 ≤ length (r ∷ rows)
    by true h = omega (arith, h)
    by false h = omega arith

module _ (name : List ℕ) (rows : List Row) where
  abbrev test : Row → Bool
  test r = bytes_eq name r.name

  abbrev at : List Row → ℕ → Option Slot
  at list i = option_map (λ (r : Row). r.slot) (slice_get list i)

  -- what is found stays found where a row is put last
  found_before : (last : Row) (i : ℕ) → position test rows ≡ Some i → position test (rows ++ last ∷ []) ≡ Some i
  found_before last i is =
      let n = position_or_len test rows in
      let found = cond_some (nat_lt n (length rows)) n i is in
      let within : n < length rows = let t = found.0 in grind (arith, nat_tests, t) in
      let other : eqb n (length rows) ≡ false = grind (arith, nat_tests, within) in
      let same : position_or_len test (rows ++ last ∷ []) ≡ n = position_or_len_push test rows last
      ∙ (λ j. cond (other j) (length rows + cond (test last) 0 1) n) in
      let longer : nat_lt n (length (rows ++ last ∷ [])) ≡ true = let l = length-append rows (last ∷ []) in grind (arith, nat_tests, within, l) in
      (λ j. cond (nat_lt (same j) (length (rows ++ last ∷ []))) (Some (same j)) None) ∙ (λ j. cond (longer j) (Some (found.1 j)) None)

  pub slot_before : (last : Row) (slot : Slot) → slot_named name rows ≡ Some slot → slot_named name (rows ++ last ∷ []) ≡ Some slot
  slot_before last slot is = by (position test rows) refl is
    where
      by : (o : Option ℕ) → position test rows ≡ o → option_and_then (at rows) o ≡ Some slot → slot_named name (rows ++ last ∷ []) ≡ Some slot
      by None none h = absurd (none-some slot h)
      by (Some i) found h =
          let within = (position-Some test rows i last found).0 in
          ap (option_and_then (at (rows ++ last ∷ []))) (found_before last i found)
          ∙ ap (option_map (λ (r : Row). r.slot)) (slice_get-push_within rows last i within) ∙ h

  -- a new name is found in the last row
  last_found : (slot : Slot) → IsNone (position test rows) → position test (rows ++ row name slot ∷ []) ≡ Some (length rows)
  last_found slot none =
      let n = position_or_len test rows in
      let past : nat_lt n (length rows) ≡ false = cond_none (nat_lt n (length rows)) n none in
      let most = at_most test rows in
      let end : eqb n (length rows) ≡ true = grind (arith, nat_tests, past, most) in
      let same : position_or_len test (rows ++ row name slot ∷ []) ≡ length rows =
      position_or_len_push test rows (row name slot) ∙ (λ j. cond (end j) (length rows + cond ((bytes_eq-Decides name name).1 refl j) 0 1) n) ∙ grind (arith) in
      let longer : nat_lt (length rows) (length (rows ++ row name slot ∷ [])) ≡ true =
      let l = length-append rows (row name slot ∷ []) in grind (arith, nat_tests, l) in
      (λ j. cond (nat_lt (same j) (length (rows ++ row name slot ∷ []))) (Some (same j)) None) ∙ (λ j. cond (longer j) (Some (length rows)) None)
    where
      cond_none : (b : Bool) (i : ℕ) → IsNone (cond b (Some i) None) → b ≡ false
      cond_none true i h = absurd (true≢false h)
      cond_none false i h = refl

  pub slot_last : (slot : Slot) → IsNone (position test rows) → slot_named name (rows ++ row name slot ∷ []) ≡ Some slot
  slot_last slot none =
      ap (option_and_then (at (rows ++ row name slot ∷ []))) (last_found slot none)
      ∙ ap (option_map (λ (r : Row). r.slot)) (slice_get-push_last rows (row name slot) (length rows) refl)

pub noted_before : (rows : List Row) (last : Row) (shorts : List Short) → AreNoted rows shorts → AreNoted (rows ++ last ∷ []) shorts
noted_before rows last shorts are =
    All-weaker (IsNoted rows) (IsNoted (rows ++ last ∷ []))
    (λ short noted name bytes is. slot_before name rows last short.slot (noted name bytes is)) shorts are
