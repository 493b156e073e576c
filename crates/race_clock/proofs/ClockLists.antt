-- What a clock knows after a change.
use Rattle.std.proofs.Common.{◌≡◌, ℕ, zero, suc, ◌+◌, ◌-◌, ◌<◌, ◌≤◌, ◌==◌, max, List, [], ◌∷◌, ◌++◌, length, replicate}
use Rattle.std.proofs.Common.{get_or, set, refl, sym, ap, ◌∙◌, inl, inr, arith, if◌then◌else◌, eq-eqb, ne_eqb}
use Rattle.std.proofs.{Common.length-append, Math.Nat.{max-zero, zero-max}, lemmas.Bool.{cases_eq, cases_lt}}
use Rattle.std.proofs.lemmas.List.{get_or-set_same, get_or-set_other, length-replicate, get_or-replicate}
use Rattle.std.proofs.lemmas.List.{get_or-append_right, get_or_append_left}
use Rattle.race_model.specs.Clocks.{owning}
use Rattle.race_clock.specs.ClockState.{knows, joined, padded, with_count}

-- nothing stands behind a list
pub get_or_past : (c : List ℕ) (h : ℕ) → length c ≤ h → get_or c h 0 ≡ 0
get_or_past [] h le = refl
get_or_past (m ∷ c) zero le = absurd (omega arith)
get_or_past (m ∷ c) (suc h) le = get_or_past c h (omega arith)

-- a joined clock knows the greater count
pub knows_joined : (c d : List ℕ) (h : ℕ) → knows (joined c d) h ≡ max (knows c h) (knows d h)
knows_joined [] d h = sym (zero-max (knows d h))
knows_joined (m ∷ c) [] h = sym (max-zero (knows (m ∷ c) h))
knows_joined (m ∷ c) (n ∷ d) zero = refl
knows_joined (m ∷ c) (n ∷ d) (suc h) = knows_joined c d h

-- zeros written out change nothing
pub knows_padded : (c : List ℕ) (n h : ℕ) → knows (padded c n) h ≡ knows c h
knows_padded c n h = elim (cases_lt h (length c)) [
  | inl within ↦ get_or_append_left c (replicate (n - length c) 0) 0 h within
  | inr past ↦ get_or-append_right c (replicate (n - length c) 0) (length c) h 0 refl past ∙ zeros (n - length c) (h - length c) ∙ sym (get_or_past c h past)
]
  where
    zeros : (m i : ℕ) → knows (replicate m 0) i ≡ 0
    zeros m i = elim (cases_lt i m) [
      | inl within ↦ get_or-replicate m i 0 0 within
      | inr past ↦ get_or_past (replicate m 0) i (omega (arith, past, length-replicate {A = ℕ} m 0))
    ]

pub long_enough : (c : List ℕ) (g : ℕ) → g < length (padded c (g + 1))
long_enough c g = long (g + 1 - length c) refl
  where
    long : (m : ℕ) → g + 1 - length c ≡ m → g < length (c ++ replicate m 0)
    long m is = omega (arith, is, length-append c (replicate {A = ℕ} m 0), length-replicate {A = ℕ} m 0)

-- a count that was set is known, and the others as before
pub knows_with_count : (c : List ℕ) (g n h : ℕ) → g < length c → knows (with_count c g n) h ≡ owning g n (knows c) h
knows_with_count c g n h less = elim (cases_eq h g) [
  | inl same ↦ rw (same, eq-eqb g g refl) (get_or-set_same c g n 0 less)
  | inr differ ↦ rw (ne_eqb h g differ) (get_or-set_other c g h n 0 differ)
]

-- joining makes no clock shorter
pub joined_long : (c d : List ℕ) → length c ≤ length (joined c d)
joined_long [] d = omega arith
joined_long (m ∷ c) [] = omega arith
joined_long (m ∷ c) (n ∷ d) = let le : length c ≤ length (joined c d) = joined_long c d in omega (arith, le)

pub joined_long_right : (c d : List ℕ) → length d ≤ length (joined c d)
joined_long_right [] d = omega arith
joined_long_right (m ∷ c) [] = omega arith
joined_long_right (m ∷ c) (n ∷ d) = let le : length d ≤ length (joined c d) = joined_long_right c d in omega (arith, le)

-- one more for g, written out before
pub knows_ticked : (c : List ℕ) (g n h : ℕ) → knows (set (padded c (g + 1)) g n) h ≡ owning g n (knows c) h
knows_ticked c g n h = knows_with_count (padded c (g + 1)) g n h (long_enough c g) ∙ ap (λ m. if h == g then n else m) (knows_padded c (g + 1) h)
