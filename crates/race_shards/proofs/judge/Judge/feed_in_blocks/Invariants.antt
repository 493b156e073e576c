use Rattle.std.proofs.Common.{◌≡◌, ◌≤◌, ◌-◌, length, take}
use Rattle.race_shards.specs.Judging.{StandsForSome, GoesOn}
use Rattle.race_shards.proofs.judge.Judge.feed_in_blocks.Given as goal

-- the events up to the index are taken
abbrev pub invariant-loop-at : goal.invariant-loop-at
invariant-loop-at g l = record {
  inside : l.at ≤ length l.events;
  some : StandsForSome l.fn.self;
  goes : GoesOn l.fn.self (take l.at l.events) l.self;
  count : l.self.count ≡ l.fn.self.count;
}

abbrev pub decreases-loop-at : goal.decreases-loop-at
decreases-loop-at g l = length l.events - l.at
