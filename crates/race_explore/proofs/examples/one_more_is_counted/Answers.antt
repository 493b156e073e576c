use Rattle.std.proofs.Common.{◌≡◌, ℕ, zero, suc, ◌+◌, ◌∷◌, [], length, Some, inl, inr, refl, sym, ap, ◌∙◌, arith}
use Rattle.std.{specs.Prelude.{slice_get, slice_set}, proofs.lemmas.Option.same_Some}
use Rattle.race_explore.specs.{Examples.CountsNumber, Told.StandsNowhere}
use Rattle.race_explore.proofs.examples.one_more_is_counted.Goals as goal

abbrev seven : ℕ × ℕ
seven = (7, 1)

-- the one number that is there
only : (k : ℕ) (p : ℕ × ℕ) → slice_get (seven ∷ []) k ≡ Some p → (k ≡ 0) × (p.0 ≡ 7)
only zero p at = (refl, ap (λ (q : ℕ × ℕ). q.0) (sym (same_Some seven p at)))
only (suc k) p at = cc

nowhere : StandsNowhere (λ (p : ℕ × ℕ). p.0 ≡ 8) (seven ∷ [])
nowhere k p at eight = let same = (only k p at).1 in absurd (omega (arith, eight, same))

pub returns-clause-there : goal.returns-clause-there
returns-clause-there c = inl (0, (7, 1), refl, refl, refl)

pub returns-clause-new : goal.returns-clause-new
returns-clause-new c = inr (nowhere, (8, 1), refl, refl)

pub returns-clause-twice : goal.returns-clause-twice
returns-clause-twice c = by
  where
    by : CountsNumber 7 (seven ∷ []) (seven ∷ seven ∷ []) → ⊥
    by (inl (k, p, at, is, new)) =
        let more : ℕ × ℕ = (p.0, p.1 + 1) in
        let same : seven ∷ seven ∷ [] ≡ slice_set (seven ∷ []) 0 more = new ∙ ap (λ k. slice_set (seven ∷ []) k more) (only k p at).0 in
        absurd (omega (arith, ap length same))
    by (inr (none, p, one, new)) = none 0 seven refl refl

pub returns-clause-another : goal.returns-clause-another
returns-clause-another c = by
  where
    by : CountsNumber 8 (seven ∷ []) ((7, 2) ∷ []) → ⊥
    by (inl (k, p, at, eight, new)) = let same = (only k p at).1 in absurd (omega (arith, eight, same))
    by (inr (none, p, one, new)) = absurd (omega (arith, ap length new))
