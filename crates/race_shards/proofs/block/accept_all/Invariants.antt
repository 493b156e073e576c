use Rattle.std.proofs.Common.{◌≡◌, ◌+◌, ◌≤◌, None, take}
use Rattle.race_legal.specs.ReplayState.{counts_in}
use Rattle.race_shards.specs.Judging.{Accepts}
use Rattle.race_shards.proofs.block.accept_all.Given as goal

abbrev pub invariant-loop-event : goal.invariant-loop-event
invariant-loop-event g l = record {
  accepts : Accepts l.fn.replay (take l.event-index l.block) None l.replay;
  counts : counts_in l.replay ≡ counts_in l.fn.replay;
  len : l.replay.len ≤ l.fn.replay.len + l.event-index;
}
