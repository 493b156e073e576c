use Rattle.std.proofs.Common.{◌≡◌, ℕ, zero, suc, [], ◌∷◌, slice_get, Some, refl, arith}
use Rattle.race_model.specs.{Order.HappensBefore, Reorder.{StandsBefore}, Examples.write_then_go}
use Rattle.race_model.proofs.{OwnOrder.own_is_reordering, ExampleLemmas.before_from}
use Rattle.model_examples.proofs.a_reordering_keeps_happens_before.Goals as goal

ordered : (caps : ℕ → ℕ) → HappensBefore caps write_then_go 0 2
ordered caps = before_from caps write_then_go 0 2 refl

-- a list with the read first doesn't keep that order
not_turned : StandsBefore (2 ∷ 0 ∷ []) 0 2 → ⊥
not_turned (i, zero, less, ati, atj) = absurd (omega arith)
not_turned (i, suc zero, less, ati, atj) = cc
not_turned (i, suc (suc j), less, ati, atj) = cc

pub returns-clause-own : goal.returns-clause-own
returns-clause-own c = λ caps. own_is_reordering caps write_then_go

pub returns-clause-turned : goal.returns-clause-turned
returns-clause-turned c = λ caps is. not_turned (is.kept 0 2 refl refl (ordered caps))

not_there : (i a : ℕ) → slice_get (0 ∷ []) i ≡ Some a → a ≡ 0
not_there zero a at = cc
not_there (suc i) a at = cc

pub returns-clause-left_out : goal.returns-clause-left_out
returns-clause-left_out c = λ caps is. let found = is.each 2 refl in absurd (omega (arith, not_there found.0 2 found.1))

pub returns-clause-twice : goal.returns-clause-twice
returns-clause-twice c = λ caps is. let same = is.once 1 2 2 refl refl in absurd (omega (arith, same))

pub returns-clause-other : goal.returns-clause-other
returns-clause-other c = λ caps is. let access = is.only 1 1 refl in cc
