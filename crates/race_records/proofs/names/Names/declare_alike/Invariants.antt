use Rattle.std.proofs.Common.{◌≡◌, ℕ, ◌<◌, slice_get}
use Rattle.race_records.specs.Rows.{declarations_of}
use Rattle.race_records.proofs.names.Names.declare_alike.Given as goal

-- the declarations before the index are the same
abbrev pub invariant-loop-index : goal.invariant-loop-index
invariant-loop-index g l = (k : ℕ) → k < l.index → slice_get (declarations_of l.self) k ≡ slice_get (declarations_of l.other) k
