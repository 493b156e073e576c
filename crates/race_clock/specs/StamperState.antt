-- What a stamper keeps, as its callers see it.
use Rattle.std.specs.Prelude.{ℕ}
use Rattle.race_clock.specs.ClocksState.{ClocksState}

-- how many events it took, and the clocks
pub record StamperState : Type 0 where
  pub len : ℕ
  pub clocks : ClocksState
