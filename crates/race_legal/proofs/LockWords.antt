-- What the table of locks says of a list for which the replay stands: the words of the rules.
use Rattle.std.proofs.{Common.{◌≡◌, ℕ, ◌+◌, ◌<◌, nat_lt, Bool, true, false, List, arith}, lemmas.Bool.Decides.nat_tests}
use Rattle.race_records.specs.{declared.{kind.Kind.Kind, event.Event.Event}, Declarations.Declaration}
use Rattle.race_model.{specs.State.{is_held, is_read_held}, proofs.CountSteps.as_number}
use Rattle.race_legal.specs.{ReplayState.{ReplayState, counts_in, held_in, read_held_in}, StandsFor.StandsFor}

-- one number is the greater where something is left between them
more_by : (m n r : ℕ) → n ≡ m + r → nat_lt m n ≡ nat_lt 0 r
more_by m n r is = grind (arith, nat_tests)

more_by_one : (m n : ℕ) (b : Bool) → n ≡ m + as_number b → nat_lt m n ≡ b
more_by_one m n true is = grind (arith, nat_tests)
more_by_one m n false is = grind (arith, nat_tests)

module _ (declarations : List Declaration) (k : ReplayState) (past : List Event)
    (S : StandsFor declarations k past) (l : ℕ) (less : l < counts_in k Kind.Lock) where
  pub is_held_is : is_held l past ≡ held_in k.locks l
  is_held_is = more_by_one _ _ (held_in k.locks l) (S.held l less)

  pub is_read_held_is : is_read_held l past ≡ read_held_in k.locks l
  is_read_held_is = more_by _ _ _ (S.readers l less)
