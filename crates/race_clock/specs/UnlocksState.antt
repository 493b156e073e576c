-- What a lock keeps of its unlocks.
use Rattle.std.specs.Prelude.{ℕ, List}

-- the clocks of all of them, and of the last
pub record UnlocksState : Type 0 where
  pub all : List ℕ
  pub last : List ℕ
