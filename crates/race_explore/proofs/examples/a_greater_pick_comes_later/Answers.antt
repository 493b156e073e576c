use Rattle.std.proofs.Common.{◌≡◌, true, false, inl, inr, refl, arith}
use Rattle.race_explore.proofs.examples.a_greater_pick_comes_later.Goals as goal

pub returns-clause-greater : goal.returns-clause-greater
returns-clause-greater c = inr (omega arith)

pub returns-clause-smaller : goal.returns-clause-smaller
returns-clause-smaller c = λ is. elim is [ inl (same, rest) ↦ absurd (omega (arith, same)) | inr less ↦ absurd (omega (arith, less)) ]

pub returns-clause-same : goal.returns-clause-same
returns-clause-same c = λ is. elim is [ inl (same, rest) ↦ rest | inr less ↦ absurd (omega (arith, less)) ]

pub returns-clause-choice : goal.returns-clause-choice
returns-clause-choice c = inr (omega arith, refl)

pub returns-clause-no_choice : goal.returns-clause-no_choice
returns-clause-no_choice c = λ is. elim is [ inl (same, rest) ↦ rest | inr (less, more) ↦ (let none : false ≡ true = more in cc) ]
