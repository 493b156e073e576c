-- A reordering of a list of specs/Examples.
use Rattle.std.proofs.Common.{◌≡◌, ◌+◌, ℕ, zero, suc, ◌<◌, [], ◌∷◌, Some, slice_get, ◌⊎◌, inl, inr, subst, refl, arith}
use Rattle.std.proofs.Common.{IsTrue}
use Rattle.race_model.specs.{Events.is_access, Order.HappensBefore, Race.IsRace, Reorder.{op_passes, IsReordering}}
use Rattle.race_model.{specs.Examples.{x, go_then_write}, proofs.{Ranks.happens_before_up, ExampleLemmas.race_by}}

module _ (caps : ℕ → ℕ) where
  go_then_write_race : IsRace caps go_then_write x 1 2
  go_then_write_race = race_by caps go_then_write x refl refl (omega arith) refl refl refl refl

  -- the read first, then the write
  pub read_first : IsReordering caps go_then_write (2 ∷ 1 ∷ [])
  read_first = record { only = only; each = each; once = once; kept = λ a b is_a is_b h. absurd (kept a b is_a is_b h) }
    where
      only : (i a : ℕ) → slice_get (2 ∷ 1 ∷ []) i ≡ Some a → IsTrue (op_passes is_access go_then_write a)
      only zero a at = let same : 2 ≡ a = cc in subst (λ a. IsTrue (op_passes is_access go_then_write a)) same refl
      only (suc zero) a at = let same : 1 ≡ a = cc in subst (λ a. IsTrue (op_passes is_access go_then_write a)) same refl
      only (suc (suc i)) a at = cc

      each : (a : ℕ) → IsTrue (op_passes is_access go_then_write a) → (i : ℕ) × (slice_get (2 ∷ 1 ∷ []) i ≡ Some a)
      each zero is = cc
      each (suc zero) is = (1, refl)
      each (suc (suc zero)) is = (0, refl)
      each (suc (suc (suc a))) is = cc

      sum : (i a : ℕ) → slice_get (2 ∷ 1 ∷ []) i ≡ Some a → i + a ≡ 2
      sum zero a at = let same : 2 ≡ a = cc in omega (arith, same)
      sum (suc zero) a at = let same : 1 ≡ a = cc in omega (arith, same)
      sum (suc (suc i)) a at = cc

      once : (i j a : ℕ) → slice_get (2 ∷ 1 ∷ []) i ≡ Some a → slice_get (2 ∷ 1 ∷ []) j ≡ Some a → i ≡ j
      once i j a p q = omega (arith, sum i a p, sum j a q)

      one_of : (a : ℕ) → IsTrue (op_passes is_access go_then_write a) → (a ≡ 1) ⊎ (a ≡ 2)
      one_of zero is = cc
      one_of (suc zero) is = inl refl
      one_of (suc (suc zero)) is = inr refl
      one_of (suc (suc (suc a))) is = cc

      kept : (a b : ℕ) → IsTrue (op_passes is_access go_then_write a) → IsTrue (op_passes is_access go_then_write b) → HappensBefore caps go_then_write a b → ⊥
      kept a b is_a is_b h =
          let up : a < b = happens_before_up caps go_then_write a b h in
          let first : a ≡ 1 = elim (one_of a is_a) [ inl is ↦ is | inr is ↦ absurd (elim (one_of b is_b) [ inl at ↦ omega arith | inr at ↦ omega arith ]) ] in
          let second : b ≡ 2 = elim (one_of b is_b) [ inl is ↦ absurd (omega arith) | inr is ↦ is ] in
          go_then_write_race.not_before (subst (λ (p : ℕ × ℕ). HappensBefore caps go_then_write p.0 p.1) (λ i. (first i, second i)) h)
