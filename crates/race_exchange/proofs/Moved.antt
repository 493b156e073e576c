-- Where an event stands once two neighbours have changed places.
use Rattle.std.proofs.Common.{◌≡◌, ◌⊎◌, ℕ, zero, suc, ◌+◌, ◌<◌, List, [], ◌∷◌, ◌++◌, Some, length, slice_get, refl, ap, inl, inr, arith}

-- the index of what stood at i, where those at n and n + 1 have changed places
abbrev pub moved : ℕ → ℕ → ℕ
moved zero zero = 1
moved zero (suc zero) = 0
moved zero (suc (suc i)) = suc (suc i)
moved (suc n) zero = zero
moved (suc n) (suc i) = suc (moved n i)

-- i stands before the two, is one of them, or stands behind them, and k is its new index
abbrev pub IsMoved : ℕ → ℕ → ℕ → Type 0
IsMoved n i k = ((i < n) × (k ≡ i)) ⊎ (((i ≡ n) × (k ≡ n + 1)) ⊎ (((i ≡ n + 1) × (k ≡ n)) ⊎ ((n + 1 < i) × (k ≡ i))))

pub moved_is : (n i : ℕ) → IsMoved n i (moved n i)
moved_is zero zero = inr (inl (refl, refl))
moved_is zero (suc zero) = inr (inr (inl (refl, refl)))
moved_is zero (suc (suc i)) = inr (inr (inr (omega arith, refl)))
moved_is (suc n) zero = inl (omega arith, refl)
moved_is (suc n) (suc i) = elim (moved_is n i) [
  | inl (less, same) ↦ inl (omega (arith, less), ap suc same)
  | inr (inl (is, same)) ↦ inr (inl (ap suc is, omega (arith, same)))
  | inr (inr (inl (is, same))) ↦ inr (inr (inl (omega (arith, is), ap suc same)))
  | inr (inr (inr (more, same))) ↦ inr (inr (inr (omega (arith, more), ap suc same)))
]

-- what stands before the two stays
pub moved_earlier : (n i : ℕ) → i < n → moved n i ≡ i
moved_earlier zero i less = omega arith
moved_earlier (suc n) zero less = refl
moved_earlier (suc n) (suc i) less = ap suc (moved_earlier n i (omega arith))

-- once more, and all stand where they stood
pub moved_back : (n i : ℕ) → moved n (moved n i) ≡ i
moved_back zero zero = refl
moved_back zero (suc zero) = refl
moved_back zero (suc (suc i)) = refl
moved_back (suc n) zero = refl
moved_back (suc n) (suc i) = ap suc (moved_back n i)

-- all but the two stand in the order in which they stood
pub moved_up : (n i j : ℕ) → i < j → (moved n i < moved n j) ⊎ ((i ≡ n) × (j ≡ n + 1))
moved_up n i j less = go (moved n i) (moved n j) (moved_is n i) (moved_is n j)
  where
    go : (k m : ℕ) → IsMoved n i k → IsMoved n j m → (k < m) ⊎ ((i ≡ n) × (j ≡ n + 1))
    go k m p q = grind arith

-- what stood at i stands at its new index
pub at_moved : {X : Type 0} (before rest : List X) (a b : X) (i : ℕ) (x : X) → slice_get (before ++ a ∷ b ∷ rest) i ≡ Some x
    → slice_get (before ++ b ∷ a ∷ rest) (moved (length before) i) ≡ Some x
at_moved [] rest a b zero x at = at
at_moved [] rest a b (suc zero) x at = at
at_moved [] rest a b (suc (suc i)) x at = at
at_moved (y ∷ before) rest a b zero x at = at
at_moved (y ∷ before) rest a b (suc i) x at = at_moved before rest a b i x at

-- the first of the two
pub at_first : {X : Type 0} (before rest : List X) (a : X) → slice_get (before ++ a ∷ rest) (length before) ≡ Some a
at_first [] rest a = refl
at_first (x ∷ before) rest a = at_first before rest a

-- the second
pub at_second : {X : Type 0} (before rest : List X) (a b : X) → slice_get (before ++ a ∷ b ∷ rest) (suc (length before)) ≡ Some b
at_second [] rest a b = refl
at_second (x ∷ before) rest a b = at_second before rest a b
