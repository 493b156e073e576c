-- A block of zeros behind the counts of a clock.
use Rattle.std.proofs.Common.{◌≡◌, ℕ, ◌+◌, ◌≤◌, max, true, false, Result, Ok, Err, OnOk, IsOk, List, ◌++◌, take, length}
use Rattle.std.proofs.Common.{replicate, ap, ◌∙◌, arith, length-append}
use Rattle.std.proofs.lemmas.List.{length-replicate, take-replicate}

-- what holds of an answer that is `Ok`
pub when_ok : {T E : Type 0} (r : Result T E) (P : Type 0) → OnOk r P → IsOk r → P
when_ok (Ok _) P p is = p
when_ok (Err _) P p is = absurd (let wrong : false ≡ true = is in cc)

block_length : (k m : ℕ) → k ≤ m → length {A = ℕ} (take k (replicate m 0)) ≡ k
block_length k m le = ap length (take-replicate k m 0 le) ∙ length-replicate k 0

-- there is room for a block
pub room : (now : List ℕ) (k to capacity : ℕ) → k ≤ 64 → length now + k ≤ to → to ≤ capacity → length now + length {A = ℕ} (take k (replicate 64 0)) ≤ capacity
room now k to capacity le less fits = omega (arith, le, less, fits, block_length k 64 le)

-- and behind it there are as many counts as it has, and no more than are asked for
pub most : (c now new : List ℕ) (k to : ℕ) → k ≤ 64 → length now + k ≤ to → new ≡ now ++ take k (replicate 64 0) → length new ≤ max to (length c)
most c now new k to le less is = omega (arith, less, ap length is, length-append now (take k (replicate 64 0)), block_length k 64 le)
