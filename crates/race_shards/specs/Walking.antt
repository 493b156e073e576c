-- How far a stamper has come along a trace.
use Rattle.std.specs.Prelude.{ℕ, ◌≡◌, ◌<◌, length, take, Option, Some, None}
use Rattle.race_records.specs.Events.{TraceState}
use Rattle.race_model.specs.Reorder.{IsAccess}
use Rattle.race_verdict.specs.Traces.{capacities}
use Rattle.race_clock.specs.{declared.stamp.Stamp.Stamp, ClocksState.clock_of, Laws.IsStampIn}
use Rattle.race_clock.specs.{StamperState.StamperState, StandsFor.StandsFor}

-- it stands for the first n events
abbrev pub StandsAt : TraceState → ℕ → StamperState → Type 0
StandsAt trace n k = StandsFor trace.decls.declarations k (take n trace.events)

-- the access at index i has this stamp, and its goroutine's clock is the one that it has then
pub record IsStampOf (trace : TraceState) (i : ℕ) (k : StamperState) (stamp : Stamp) : Type 0 where
  pub stamped : IsStampIn (capacities trace) trace.events stamp (clock_of k.clocks stamp.who)
  pub at : stamp.at ≡ i
  pub clock : stamp.who < length k.clocks.slots

-- the event at index i is no access, or has this stamp
abbrev pub IsStampAt : TraceState → ℕ → StamperState → Option Stamp → Type 0
IsStampAt trace i k None = ¬ IsAccess trace.events i
IsStampAt trace i k (Some stamp) = IsStampOf trace i k stamp
