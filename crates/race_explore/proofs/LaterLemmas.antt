-- Which run comes later than which.
use Rattle.std.proofs.Common.{List, [], ◌∷◌, ◌∙◌, arith, inl, inr}
use Rattle.race_record.specs.declared.noting.Fork.{Fork}
use Rattle.race_explore.specs.Lists.{After, Later}

pub after_later : (forks others : List Fork) → After forks others → Later forks others
after_later [] others after = absurd after
after_later (f ∷ forks) [] after = absurd after
after_later (f ∷ forks) (g ∷ others) (inl (same, after)) = inl (same, after_later forks others after)
after_later (f ∷ forks) (g ∷ others) (inr (less, more)) = inr less

pub later_on : (forks between others : List Fork) → Later forks between → Later between others → Later forks others
later_on [] between others a b = absurd a
later_on (f ∷ forks) [] others a b = absurd a
later_on (f ∷ forks) (g ∷ between) [] a b = absurd b
later_on (f ∷ forks) (g ∷ between) (h ∷ others) (inl (same, a)) (inl (same2, b)) = inl (same ∙ same2, later_on forks between others a b)
later_on (f ∷ forks) (g ∷ between) (h ∷ others) (inl (same, a)) (inr less) = inr (omega (arith, same, less))
later_on (f ∷ forks) (g ∷ between) (h ∷ others) (inr less) (inl (same, b)) = inr (omega (arith, same, less))
later_on (f ∷ forks) (g ∷ between) (h ∷ others) (inr less) (inr less2) = inr (omega (arith, less, less2))
