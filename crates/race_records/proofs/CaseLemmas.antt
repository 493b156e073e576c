-- A list of cases, read and made longer by the numbers that stand for it.
use Rattle.std.proofs.Common.{◌≡◌, ℕ, zero, suc, ◌+◌, ◌*◌, ◌/◌, ◌%◌, ◌^◌, ◌<◌, List, [], ◌∷◌, ◌++◌, ◌≤◌, length, take}
use Rattle.std.proofs.Common.{set, Some, option_map, slice_get, refl, sym, subst, ap, ◌∙◌, arith, Option, None, IfSome}
use Rattle.std.proofs.{Common.{Bool, true, false, if◌then◌else◌}, Math.Dec.ltb}
use Rattle.std.proofs.Math.{Nat.{add-mul-mod_self_right, mod-eq_of_lt}, Pow.pow_mono}
use Rattle.std.proofs.lemmas.{Bool.{lt-ltb, ltb-false, le-ltb}, List.{length-take-le, take_more_set}}
use Rattle.std.{proofs.lemmas.Nat.Bits.{bit_at-suc, bit_at_lowest}, specs.Int.bit_at}
use Rattle.race_records.specs.{declared.cases.Case.Case, Cases.{case_of, cases_of, kept, kept_chan}}
use Rattle.race_records.specs.Operands.{chan_is_in_range, case_is_in_range}

-- there is a case for each number
pub cases_len : (numbers : List ℕ) (sends nils : ℕ) → length (cases_of numbers sends nils) ≡ length numbers
cases_len [] sends nils = refl
cases_len (n ∷ numbers) sends nils = ap suc (cases_len numbers (sends / 2) (nils / 2))

-- case k is that of its number and its bits
pub case_at : (numbers : List ℕ) (sends nils k : ℕ)
    → slice_get (cases_of numbers sends nils) k ≡ option_map (case_of (bit_at sends k) (bit_at nils k)) (slice_get numbers k)
case_at [] sends nils k = refl
case_at (n ∷ numbers) sends nils zero = λ i. Some (case_of (sym (bit_at_lowest sends) i) (sym (bit_at_lowest nils) i) n)
case_at (n ∷ numbers) sends nils (suc k) =
    case_at numbers (sends / 2) (nils / 2) k
    ∙ (λ i. option_map (case_of (sym (bit_at-suc sends k) i) (sym (bit_at-suc nils k) i)) (slice_get numbers k))

-- a number to which a high bit is added has the same lowest bit, and the half of it has the bit one lower
high_bit : (b k : ℕ) → b * 2 ^ suc k ≡ (b * 2 ^ k) * 2
high_bit b k = grind (arith)

half_more : (s b k : ℕ) → (s + b * 2 ^ suc k) / 2 ≡ s / 2 + b * 2 ^ k
half_more s b k = ap (λ n. (s + n) / 2) (high_bit b k) ∙ omega arith

lowest_more : (s b k : ℕ) → (s + b * 2 ^ suc k) % 2 ≡ s % 2
lowest_more s b k = ap (λ n. (s + n) % 2) (high_bit b k) ∙ add-mul-mod_self_right s (b * 2 ^ k) 2

half_below : (s k : ℕ) → s < 2 ^ suc k → s / 2 < 2 ^ k
half_below s k below = let two : 2 ^ suc k ≡ 2 ^ k * 2 = grind (arith) in omega (arith, below, two)

-- one more case, whose bits are above the others
pub cases_push : (numbers : List ℕ) (sends nils n b z : ℕ) → sends < 2 ^ length numbers → b < 2 → nils < 2 ^ length numbers → z < 2
    → cases_of (numbers ++ n ∷ []) (sends + b * 2 ^ length numbers) (nils + z * 2 ^ length numbers) ≡ cases_of numbers sends nils ++ case_of b z n ∷ []
cases_push [] sends nils n b z below bit low nil =
    let sent : (sends + b * 2 ^ 0) % 2 ≡ b = omega (arith, below, bit) in
    let none : (nils + z * 2 ^ 0) % 2 ≡ z = omega (arith, low, nil) in
    λ i. case_of (sent i) (none i) n ∷ []
cases_push (m ∷ numbers) sends nils n b z below bit low nil =
    let len = length numbers in
    (λ i. case_of (lowest_more sends b len i) (lowest_more nils z len i) m
    ∷ cases_of (numbers ++ n ∷ []) (half_more sends b len i) (half_more nils z len i))
    ∙ ap (λ cs. case_of (sends % 2) (nils % 2) m ∷ cs)
    (cases_push numbers (sends / 2) (nils / 2) n b z (half_below sends len below) bit (half_below nils len low) nil)

-- of a row of sixteen numbers those in front count
pub front_len : (chans : List ℕ) (count : ℕ) → length chans ≡ 16 → count ≤ 16 → length (take count chans) ≡ count
front_len chans count whole few = length-take-le count chans (omega (arith, whole, few))

pub counted_len : (chans : List ℕ) (sends nils count : ℕ) → length chans ≡ 16 → count ≤ 16 → length (cases_of (take count chans) sends nils) ≡ count
counted_len chans sends nils count whole few = cases_len (take count chans) sends nils ∙ front_len chans count whole few

pub counted_push : (chans : List ℕ) (sends nils count n b z : ℕ) → length chans ≡ 16 → count < 16 → sends < 2 ^ count → b < 2 → nils < 2 ^ count → z < 2
    → cases_of (take (count + 1) (set chans count n)) (sends + b * 2 ^ count) (nils + z * 2 ^ count)
    ≡ cases_of (take count chans) sends nils ++ case_of b z n ∷ []
counted_push chans sends nils count n b z whole few below bit low nil =
    let len = front_len chans count whole (omega (arith, few)) in
    (λ i. cases_of (take_more_set chans count n (omega (arith, whole, few)) i) (sends + b * 2 ^ sym len i) (nils + z * 2 ^ sym len i))
    ∙ cases_push (take count chans) sends nils n b z
    (subst (λ m. sends < 2 ^ m) (sym len) below) bit (subst (λ m. nils < 2 ^ m) (sym len) low) nil

-- a bit that is moved up by less than 16 places isn't cut off
pub shifted : (count b : ℕ) → count ≤ 15 → b < 2 → b * 2 ^ count % 65536 ≡ b * 2 ^ count
shifted count b few bit = let below : 2 ^ count ≤ 32768 = pow_mono {i = count} {j = 15} few in mod-eq_of_lt (grind (arith, below, bit))

pub shifted_below : (sends count b : ℕ) → count ≤ 15 → sends < 2 ^ count → b < 2 → sends + b * 2 ^ count % 65536 < 2 ^ (count + 1)
shifted_below sends count b few below bit =
    let next : 2 ^ suc count ≡ 2 ^ count * 2 = grind (arith) in
    let one : count + 1 ≡ suc count = omega arith in
    let two : 2 ^ (count + 1) ≡ 2 ^ count * 2 = ap (λ n. 2 ^ n) one ∙ next in
    let least : b * 2 ^ count ≤ 2 ^ count = grind (arith, bit) in
    omega (arith, shifted count b few bit, two, least, below)

-- all of a case is kept where its channel's number is one that a channel can have
pub kept_whole : (case : Case) → IfSome case.chan (λ c. c < 65535) → kept case ≡ case
kept_whole case low = (λ i. record { dir = case.dir; chan = same case.chan low i })
  where
    same : (chan : Option ℕ) → IfSome chan (λ c. c < 65535) → kept_chan chan ≡ chan
    same None low = refl
    same (Some c) low = ap (λ (b : Bool). Some (if b then c else 65535)) (lt-ltb c 65535 low)

-- what is kept of a case is declared exactly where its channel is
pub kept_range : (chans : ℕ) (case : Case) → chans ≤ 65535 → case_is_in_range chans (kept case) ≡ case_is_in_range chans case
kept_range chans case few = by case.chan
  where
    both : (c : ℕ) (b : Bool) → ltb c 65535 ≡ b → ltb (if b then c else 65535) chans ≡ ltb c chans
    both c true low = refl
    both c false high =
        let above = ltb-false c 65535 high in
        le-ltb 65535 chans few ∙ sym (le-ltb c chans (omega (arith, above, few)))

    by : (chan : Option ℕ) → chan_is_in_range chans (kept_chan chan) ≡ chan_is_in_range chans chan
    by None = refl
    by (Some c) = both c (ltb c 65535) refl
