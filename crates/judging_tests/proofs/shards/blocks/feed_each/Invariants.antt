-- The judge has taken the events up to the index.
use Rattle.std.proofs.Common.{◌≤◌, length, take}
use Rattle.race_shards.specs.Judging.{GoesOn}
use Rattle.judging_tests.proofs.shards.blocks.feed_each.Given as goal

abbrev pub invariant-loop-end : goal.invariant-loop-end
invariant-loop-end g l = record {
  inside : l.at ≤ length l.trace.events;
  goes : GoesOn l.fn.judge (take l.at l.trace.events) l.judge;
}
