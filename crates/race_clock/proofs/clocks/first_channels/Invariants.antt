use Rattle.std.proofs.Common.{◌≡◌, ℕ, ◌<◌, length}
use Rattle.race_records.specs.Declarations.{capacity_of}
use Rattle.race_clock.specs.ClocksState.{channel_of, first_channel}
use Rattle.race_clock.proofs.clocks.first_channels.Given as goal

abbrev pub invariant-loop-chan : goal.invariant-loop-chan
invariant-loop-chan g l = record {
  len : length l.channels.items ≡ l.chan;
  each : (c : ℕ) → c < l.chan → channel_of l.channels.items c ≡ first_channel (capacity_of l.decls.declarations c);
}
