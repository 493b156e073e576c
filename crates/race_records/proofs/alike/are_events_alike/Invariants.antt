use Rattle.std.proofs.Common.{◌≡◌, ℕ, ◌<◌, slice_get}
use Rattle.race_records.specs.TraceEquality.{placed_events}
use Rattle.race_records.proofs.alike.are_events_alike.Given as goal

-- the events before the index are the same
abbrev pub invariant-loop-index : goal.invariant-loop-index
invariant-loop-index g l = (k : ℕ) → k < l.index → slice_get (placed_events l.trace) k ≡ slice_get (placed_events l.other) k
