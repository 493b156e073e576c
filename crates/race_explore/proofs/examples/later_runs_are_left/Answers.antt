use Rattle.std.proofs.Common.{inl, inr, refl, arith}
use Rattle.race_explore.proofs.examples.later_runs_are_left.Goals as goal

pub returns-clause-begins : goal.returns-clause-begins
returns-clause-begins c = inl (refl, inl (refl, tt))

pub returns-clause-later : goal.returns-clause-later
returns-clause-later c = inr (omega arith)

pub returns-clause-earlier : goal.returns-clause-earlier
returns-clause-earlier c = λ is. elim is [
  | inl (same, rest) ↦ elim rest [ inl (one, all) ↦ absurd (omega (arith, one)) | inr less ↦ absurd (omega (arith, less)) ]
  | inr less ↦ absurd (omega (arith, less))
]

pub returns-clause-shorter : goal.returns-clause-shorter
returns-clause-shorter c = λ is. elim is [ inl (same, rest) ↦ rest | inr less ↦ absurd (omega (arith, less)) ]
