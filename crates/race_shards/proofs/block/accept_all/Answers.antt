-- The replay stands for the front up to the index; at the end for all of the block.
use Rattle.std.proofs.Common.{◌≡◌, ◌∙◌, [], ◌∷◌, None, take, refl, sym, subst, take_all, arith}
use Rattle.race_records.specs.declared.event.Event.{Event}
use Rattle.race_legal.specs.ReplayState.{IsInRange, counts_in}
use Rattle.race_shards.{specs.Judging.Accepts, proofs.{ShardSteps.item_at, JudgeSteps.{accepts_none, accepts_is, accepts_more, breaks}}}
use Rattle.race_shards.proofs.block.accept_all.Goals as goal

pub loop-event-init : goal.loop-event-init
loop-event-init g c = record { accepts = accepts_none c.args.replay.now c.args.block.now; counts = refl; len = omega arith }

pub accept_next-requires-clause-range : goal.accept_next-requires-clause-range
accept_next-requires-clause-range g c =
    let e : Event = c.event-item.result in
    subst (λ counts. IsInRange counts e) (sym c.loop-event.invariant.counts)
    (subst (IsInRange (counts_in c.args.replay.now)) (sym c.event-item.is) (c.requires.range c.loop-event.event-index e c.loop-event-test.true))

pub returns-in_err-illegal-clause-counts : goal.returns-in_err-illegal-clause-counts
returns-in_err-illegal-clause-counts g c = c.accept_next.ensures.counts ∙ c.loop-event.invariant.counts

pub returns-in-Some : goal.returns-in-Some
returns-in-Some g c =
    let e : Event = c.event-item.result in
    let block = c.args.block.now in
    let here = item_at block c.loop-event.event-index e c.loop-event-test.true c.event-item.is in
    record {
      accepts = breaks c.args.replay.now c.loop-event.replay c.accept_next.new.replay block c.loop-event.event-index e here
          c.loop-event.invariant.accepts c.in-Some.illegal
          (accepts_is c.loop-event.replay c.accept_next.new.replay (e ∷ []) c.in-Some.is c.in_ok-illegal.ensures.accepts);
      counts = c.accept_next.ensures.counts ∙ c.loop-event.invariant.counts;
    }

pub loop-event-preserved : goal.loop-event-preserved
loop-event-preserved g c =
    let e : Event = c.event-item.result in
    let block = c.args.block.now in
    let here = item_at block c.loop-event.event-index e c.loop-event-test.true c.event-item.is in
    record {
      accepts =
          accepts_more c.args.replay.now c.loop-event.replay c.accept_next.new.replay block c.loop-event.event-index e here
          c.loop-event.invariant.accepts
          (accepts_is c.loop-event.replay c.accept_next.new.replay (e ∷ []) c.in_default.is c.in_ok-illegal.ensures.accepts);
      counts = c.accept_next.ensures.counts ∙ c.loop-event.invariant.counts;
      len = omega (arith, c.accept_next.ensures.len, c.loop-event.invariant.len);
    }

pub returns-clause-accepts : goal.returns-clause-accepts
returns-clause-accepts g c =
    let block = c.args.block.now in
    let all : take c.loop-event.event-index block ≡ block = take_all c.loop-event.event-index block (omega (arith, c.loop-event-test.false)) in
    subst (λ front. Accepts c.args.replay.now front None c.loop-event.replay) all c.loop-event.invariant.accepts
