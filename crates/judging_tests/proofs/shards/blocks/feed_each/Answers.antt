-- The judge has taken the events up to the index, and so can take those behind it.
use Rattle.std.proofs.Common.{◌≡◌, ◌+◌, ◌-◌, ◌≤◌, List, [], length, take, drop, sym, ap, subst, arith}
use Rattle.race_records.specs.declared.event.Event.{Event}
use Rattle.race_shards.specs.Judging.{StandsForSome, CanTake, GoesOn}
use Rattle.race_shards.proofs.JudgeSteps.{can_take_all, can_take_next, took_none, took_next}
use Rattle.judging_tests.proofs.shards.blocks.feed_each.Goals as goal

pub loop-end-init : goal.loop-end-init
loop-end-init g c = record { inside = omega arith; goes = took_none c.args.judge.now c.args.trace.now.events }

pub feed-requires-after_bounds : goal.feed-requires-after_bounds
feed-requires-after_bounds g c κs within =
    let trace = c.args.trace.now in
    let held = c.loop-end.invariant in
    let at = c.loop-end.at in
    let to = c.end_from-to.result in
    let some : StandsForSome c.args.judge.now = record { declarations = trace.decls.declarations; past = []; stands = c.requires } in
    let can = can_take_all trace c.events-events.ensures.is_trace c.args.judge.now c.requires in
    let same : length c.events-events.result.now ≡ length trace.events = ap length c.events-events.ensures.events in
    let short : to - at ≤ length trace.events - at = omega (arith, c.end_from-to.ensures.inside, same) in
    subst (λ (es : List Event). CanTake c.loop-end.judge (take (to - at) (drop at es))) (sym c.events-events.ensures.events)
    (can_take_next c.args.judge.now some trace.events can at held.inside c.loop-end.judge held.goes (to - at) short)

pub loop-end-preserved : goal.loop-end-preserved
loop-end-preserved g c =
    let trace = c.args.trace.now in
    let held = c.loop-end.invariant in
    let at = c.loop-end.at in
    let to = c.end_from-to.result in
    let some : StandsForSome c.args.judge.now = record { declarations = trace.decls.declarations; past = []; stands = c.requires } in
    let can = can_take_all trace c.events-events.ensures.is_trace c.args.judge.now c.requires in
    let same : length c.events-events.result.now ≡ length trace.events = ap length c.events-events.ensures.events in
    let goes : GoesOn c.loop-end.judge (take (to - at) (drop at trace.events)) c.feed.new.self =
    subst (λ (es : List Event). GoesOn c.loop-end.judge (take (to - at) (drop at es)) c.feed.new.self)
    c.events-events.ensures.events c.in_ok-feed.ensures.goes_on in
    let behind : at + (to - at) ≡ to = omega (arith, c.end_from-to.ensures.later) in
    record {
      inside = omega (arith, c.end_from-to.ensures.inside, same);
      goes = subst (λ n. GoesOn c.args.judge.now (take n trace.events) c.feed.new.self) behind
          (took_next c.args.judge.now some trace.events can at held.inside c.loop-end.judge held.goes (to - at) c.feed.new.self goes);
    }
