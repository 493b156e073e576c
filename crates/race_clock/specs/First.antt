-- The clocks before the first event.
use Rattle.std.specs.Prelude.{ℕ, ◌≡◌, ◌<◌, List, [], length, replicate}
use Rattle.race_records.specs.{declared.kind.Kind.Kind, Declarations.{Declaration, count_of, capacity_of}}
use Rattle.race_clock.specs.ClocksState.{ClocksState, channel_of, no_lock, first_slots, first_channel}

-- under the declarations, nothing is known of what is declared
pub record IsFirst (declarations : List Declaration) (k : ClocksState) : Type 0 where
  pub slots : k.slots ≡ first_slots (count_of Kind.Goroutine declarations)
  pub all_channels : length k.channels ≡ count_of Kind.Chan declarations
  pub each_channel : (c : ℕ) → c < length k.channels → channel_of k.channels c ≡ first_channel (capacity_of declarations c)
  pub locks : k.locks ≡ replicate (count_of Kind.Lock declarations) no_lock
  pub ends : k.ends ≡ replicate (count_of Kind.Once declarations) []
