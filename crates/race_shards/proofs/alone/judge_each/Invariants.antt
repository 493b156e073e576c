use Rattle.std.proofs.Common.{◌≡◌, ◌+◌, ◌≤◌, None, take}
use Rattle.race_legal.specs.ReplayState.{counts_in}
use Rattle.race_shards.specs.{Judging.Accepts, Shards.Takes}
use Rattle.race_shards.proofs.alone.judge_each.Given as goal

abbrev pub invariant-loop-event : goal.invariant-loop-event
invariant-loop-event g l = record {
  accepts : Accepts l.fn.replay (take l.event-index l.events) None l.replay;
  counts : counts_in l.replay ≡ counts_in l.fn.replay;
  len : l.replay.len ≤ l.fn.replay.len + l.event-index;
  takes : Takes l.fn.shard (take l.event-index l.events) l.shard;
}
