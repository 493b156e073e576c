use Rattle.std.proofs.Common.{◌≤◌, [], length, subst, arith}
use Rattle.race_records.specs.Declarations.{DeclsState}
use Rattle.race_verdict.specs.Traces.{capacities}
use Rattle.race_clock.specs.StandsFor.{StandsFor}
use Rattle.race_shards.proofs.OrderSteps.{adds_none, adds_next, adds_whole}
use Rattle.race_shards.proofs.order.add_part.Goals as goal

pub loop-at-init : goal.loop-at-init
loop-at-init g c = record {
  stands = subst (λ (d : DeclsState). StandsFor d.declarations c.in_ok-stamper.stamper []) c.decls.ensures.decls c.in_ok-stamper.ensures.stands;
  adds = adds_none _ c.args.order.now.items;
}

pub loop-at-preserved : goal.loop-at-preserved
loop-at-preserved g c = record {
  stands = c.in_ok-stamp.ensures.stands;
  adds = adds_next c.args.trace.now c.args.pair.now c.requires.pair c.args.part c.loop-at.at c.step.new.stamper c.in_ok-stamp.stamp c.in_ok-stamp.ensures.stamp
      c.args.order.now.items c.loop-at.order.items c.add_one.new.order.items c.loop-at.invariant.adds c.in_ok-add_one.ensures;
}

pub returns : goal.returns
returns g c =
    let trace = c.args.trace.now in
    let all : length trace.events ≤ c.loop-at.at = omega (arith, c.loop-at-test.false, c.len-at-end.ensures.len) in
    adds_whole c.args.part (capacities trace) trace.events c.args.pair.now.first.stamp.at c.args.pair.now.second.stamp.at c.loop-at.at
    c.args.order.now.items c.loop-at.order.items all c.loop-at.invariant.adds
