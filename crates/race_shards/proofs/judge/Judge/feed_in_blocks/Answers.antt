-- The judge has taken the events up to the index, and so can take those behind it.
use Rattle.std.proofs.{Common.{◌≡◌, ◌+◌, ◌-◌, take, refl, ◌∙◌, subst, arith}, lemmas.Result.err_from_is_err_and}
use Rattle.race_shards.{specs.Judging.{JudgeState, StandsForSome, GoesOn}, proofs.JudgeSteps.{can_take_next, took_none}}
use Rattle.race_shards.proofs.JudgeSteps.{took_next, took_all, well_taken, len_taken}
use Rattle.race_shards.proofs.judge.Judge.feed_in_blocks.Goals as goal

pub loop-at-init : goal.loop-at-init
loop-at-init g c = record {
  inside = omega arith;
  some = subst (λ (j : JudgeState). StandsForSome j) c.self.view_is (c.self.invariant c.if-self.false);
  goes = took_none c.args.self.now c.args.events.now;
  count = refl;
}

pub feed-requires-after_bounds : goal.feed-requires-after_bounds
feed-requires-after_bounds g c κs within =
    let held = c.loop-at.invariant in
    let at = c.loop-at.at in
    let end = c.end_of-end.result in
    can_take_next c.args.self.now held.some c.args.events.now c.requires.can at held.inside c.loop-at.self held.goes (end - at)
    (omega (arith, c.end_of-end.ensures.inside))

pub loop-at-smaller : goal.loop-at-smaller
loop-at-smaller g c = omega (arith, c.end_of-end.ensures.later, c.loop-at-test.true)

pub loop-at-preserved : goal.loop-at-preserved
loop-at-preserved g c =
    let held = c.loop-at.invariant in
    let at = c.loop-at.at in
    let end = c.end_of-end.result in
    let behind : at + (end - at) ≡ end = omega (arith, c.end_of-end.ensures.later) in
    record {
      inside = omega (arith, c.end_of-end.ensures.inside);
      some = held.some;
      goes = subst (λ n. GoesOn c.args.self.now (take n c.args.events.now) c.feed.new.self) behind
          (took_next c.args.self.now held.some c.args.events.now c.requires.can at held.inside c.loop-at.self held.goes (end - at) c.feed.new.self
          c.in_ok-feed.ensures.goes_on);
      count = c.feed.ensures.count ∙ held.count;
    }

pub returns-clause-goes_on : goal.returns-clause-goes_on
returns-clause-goes_on g c = took_all c.args.self.now c.loop-at.self c.args.events.now c.loop-at.at c.loop-at-test.false c.loop-at.invariant.goes

pub returns-clause-len : goal.returns-clause-len
returns-clause-len g c =
    let held = c.loop-at.invariant in
    let len = len_taken c.args.self.now held.some c.args.events.now c.requires.can c.loop-at.at held.inside c.loop-at.self held.goes in
    omega (arith, len, held.inside, c.loop-at-test.false)

pub returns-in_err-feed-clause-others : goal.returns-in_err-feed-clause-others
returns-in_err-feed-clause-others g c = λ well.
    let held = c.loop-at.invariant in
    let fine = well_taken c.args.self.now held.some c.args.events.now c.requires.can c.loop-at.at held.inside c.loop-at.self held.goes in
    let p = err_from_is_err_and c.from_residual.result c.from_residual.ensures.1 in
    rw (p.1, p.2) (c.in_err-feed.ensures.others fine)
