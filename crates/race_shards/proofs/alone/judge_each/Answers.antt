-- Replay and shard stand for the front up to the index; at the end for all events.
use Rattle.std.proofs.Common.{◌≡◌, ◌+◌, ◌∙◌, [], ◌∷◌, Some, None, take, slice_get, refl, sym, subst, take_all, arith}
use Rattle.race_records.specs.declared.event.Event.{Event}
use Rattle.race_legal.specs.ReplayState.{IsInRange, counts_in}
use Rattle.race_shards.{specs.{Judging.Accepts, Shards.Takes}, proofs.ShardSteps.{item_at, takes_none, takes_more}}
use Rattle.race_shards.proofs.JudgeSteps.{accepts_none, accepts_is, accepts_more, breaks, judges_illegal}
use Rattle.race_shards.proofs.AloneSteps.{next_alone, judges_alone}
use Rattle.race_shards.proofs.alone.judge_each.Goals.{In_default}
use Rattle.race_shards.proofs.alone.judge_each.Goals as goal

pub loop-event-init : goal.loop-event-init
loop-event-init g c = record {
  accepts = accepts_none c.args.replay.now c.args.events.now;
  counts = refl;
  len = omega arith;
  takes = takes_none c.args.shard.now c.args.events.now;
}

pub accept_next-requires-clause-range : goal.accept_next-requires-clause-range
accept_next-requires-clause-range g c =
    let e : Event = c.event-item.result in
    subst (λ counts. IsInRange counts e) (sym c.loop-event.invariant.counts)
    (subst (IsInRange (counts_in c.args.replay.now)) (sym c.event-item.is) (c.requires.range c.loop-event.event-index e c.loop-event-test.true))

pub returns-in-Some : goal.returns-in-Some
returns-in-Some g c =
    let here = item_at c.args.events.now c.loop-event.event-index c.event-item.result c.loop-event-test.true c.event-item.is in
    judges_illegal c.args.replay.now c.accept_next.new.replay (c.args.shard.now ∷ []) (c.loop-event.shard ∷ []) c.args.events.now c.in-Some.illegal
    (breaks c.args.replay.now c.loop-event.replay c.accept_next.new.replay c.args.events.now c.loop-event.event-index c.event-item.result here c.loop-event.invariant.accepts
    c.in-Some.illegal (accepts_is c.loop-event.replay c.accept_next.new.replay (c.event-item.result ∷ []) c.in-Some.is c.in_ok-illegal.ensures.accepts))

module _ (g : _) (c : goal.In_default g) where
  accepted : Accepts c.args.replay.now (take (c.loop-event.event-index + 1) c.args.events.now) None c.accept_next.new.replay
  accepted = accepts_more c.args.replay.now c.loop-event.replay c.accept_next.new.replay c.args.events.now c.loop-event.event-index c.event-item.result
      (item_at c.args.events.now c.loop-event.event-index c.event-item.result c.loop-event-test.true c.event-item.is) c.loop-event.invariant.accepts
      (accepts_is c.loop-event.replay c.accept_next.new.replay (c.event-item.result ∷ []) c.in_default.is c.in_ok-illegal.ensures.accepts)

pub take-requires : goal.take-requires
take-requires g c =
    next_alone c.args.replay.now c.args.shard.now c.args.events.now c.loop-event.replay c.accept_next.new.replay c.loop-event.shard c.loop-event.event-index
    c.event-item.result (item_at c.args.events.now c.loop-event.event-index c.event-item.result c.loop-event-test.true c.event-item.is)
    c.requires c.loop-event.invariant.accepts (accepted g (goal.at.take-requires g c).In_default) c.loop-event.invariant.takes

pub loop-event-preserved : goal.loop-event-preserved
loop-event-preserved g c = record {
  accepts = accepted g (goal.at.loop-event-preserved g c).In_default;
  counts = c.accept_next.ensures.counts ∙ c.loop-event.invariant.counts;
  len = omega (arith, c.accept_next.ensures.len, c.loop-event.invariant.len);
  takes = takes_more c.args.shard.now c.loop-event.shard c.take.new.self c.args.events.now c.loop-event.event-index c.event-item.result
      (item_at c.args.events.now c.loop-event.event-index c.event-item.result c.loop-event-test.true c.event-item.is)
      c.loop-event.invariant.takes c.in_ok-take.ensures;
}

pub returns : goal.returns
returns g c =
    let events = c.args.events.now in
    let all : take c.loop-event.event-index events ≡ events = take_all c.loop-event.event-index events (omega (arith, c.loop-event-test.false)) in
    judges_alone c.args.replay.now c.args.shard.now events c.loop-event.replay c.loop-event.shard
    (subst (λ front. Accepts c.args.replay.now front None c.loop-event.replay) all c.loop-event.invariant.accepts)
    (subst (λ front. Takes c.args.shard.now front c.loop-event.shard) all c.loop-event.invariant.takes)
