-- All numbers of which something holds, up to a number.
use Rattle.std.proofs.Common.{◌≡◌, ◌⊎◌, ℕ, ◌+◌, ◌<◌, List, [], ◌∷◌, ◌++◌, Some, length, slice_get, sym, ap, ◌∙◌, subst}
use Rattle.std.proofs.{Common.{inl, inr, arith}, lemmas.{Bool.cases_eq, Option.slice_get_within}}
use Rattle.race_model.proofs.Indexes.{append_at_old, slice_get-push, push_at}
use Rattle.race_shards.specs.Witness.{AreAll}

-- P holds of a, which is below n
abbrev pub Below : ℕ → (ℕ → Type 0) → ℕ → Type 0
Below n P a = (a < n) × P a

pub all_none : (P : ℕ → Type 0) → AreAll (Below 0 P) []
all_none P = record { only = λ k a at. cc; each = λ a is. absurd (let less = is.0 in omega (arith, less)); rising = λ k m a b less atk atm. cc }

module _ (P : ℕ → Type 0) (n : ℕ) (xs : List ℕ) (X : AreAll (Below n P) xs) where
  -- the next number, of which P holds
  pub all_more : P n → AreAll (Below (n + 1) P) (xs ++ n ∷ [])
  all_more holds = record {
    only = λ k a at. elim (push_at xs n k a at) [
      | inl old ↦ let was = X.only k a old in let less : a < n = was.0 in ((let more : a < n + 1 = omega (arith, less) in more), was.1)
      | inr new ↦ let same : n ≡ a = new.1 in ((let more : a < n + 1 = omega (arith, same) in more), subst P same holds)
    ];
    each = λ a is. elim (cases_eq a n) [
      | inl same ↦ (length xs, slice_get-push xs n ∙ ap Some (sym same))
      | inr differ ↦
          let under : a < n + 1 = is.0 in
          let less : a < n = omega (arith, under, differ) in
          let at = X.each a (less, is.1) in
          (at.0, append_at_old xs (n ∷ []) at.0 a at.1)
    ];
    rising = λ k m a b less atk atm. rise k m a b less (push_at xs n k a atk) (push_at xs n m b atm);
  }
    where
      rise : (k m a b : ℕ) → k < m → (slice_get xs k ≡ Some a) ⊎ ((k ≡ length xs) × (n ≡ a)) → (slice_get xs m ≡ Some b) ⊎ ((m ≡ length xs) × (n ≡ b)) → a < b
      rise k m a b less (inl oldk) (inl oldm) = X.rising k m a b less oldk oldm
      rise k m a b less (inl oldk) (inr newm) = let under : a < n = (X.only k a oldk).0 in let same : n ≡ b = newm.1 in omega (arith, under, same)
      rise k m a b less (inr newk) (inl oldm) = let under = slice_get_within xs m b oldm in let here = newk.0 in absurd (omega (arith, less, under, here))
      rise k m a b less (inr newk) (inr newm) = let here = newk.0 in let there = newm.0 in absurd (omega (arith, less, here, there))

  -- and one of which it doesn't
  pub all_passed : ¬ P n → AreAll (Below (n + 1) P) xs
  all_passed fails = record {
    only = λ k a at. let was = X.only k a at in let less : a < n = was.0 in ((let more : a < n + 1 = omega (arith, less) in more), was.1);
    each = λ a is. elim (cases_eq a n) [
      | inl same ↦ absurd (fails (subst P same is.1))
      | inr differ ↦ let under : a < n + 1 = is.0 in let less : a < n = omega (arith, under, differ) in X.each a (less, is.1)
    ];
    rising = X.rising;
  }

  -- where none of which it holds is left out
  pub all_whole : ((a : ℕ) → P a → a < n) → AreAll P xs
  all_whole less = record { only = λ k a at. (X.only k a at).1; each = λ a is. X.each a (less a is, is); rising = X.rising }
