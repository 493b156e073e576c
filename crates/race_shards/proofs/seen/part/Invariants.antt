use Rattle.std.proofs.Common.{◌≡◌, ◌≤◌, ◌+◌, take}
use Rattle.race_model.specs.Clocks.{participations}
use Rattle.race_shards.proofs.seen.part.Given as goal

-- so many parts are left to be passed
abbrev pub invariant-loop-at : goal.invariant-loop-at
invariant-loop-at g l = record {
  counted : l.left + participations l.goroutine (take l.at l.trace.events) ≡ l.number;
  some : 1 ≤ l.left;
}
