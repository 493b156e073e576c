use Rattle.std.{proofs.Common.{◌≡◌, ℕ, ◌<◌, length}, specs.List.slice_index_or}
use Rattle.race_edges.specs.Numbers.{number_at}
use Rattle.race_edges.proofs.numbers.Numbers.new.Given as goal

-- the numbers of the events before the index
abbrev pub invariant-loop-at : goal.invariant-loop-at
invariant-loop-at g l = record {
  len : length l.numbers.items ≡ l.at;
  each : (i : ℕ) → i < l.at → slice_index_or l.numbers.items i 0 ≡ number_at l.trace.events i;
}
