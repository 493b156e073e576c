-- The event comes next, since the stamper stands for those before it and the trace is legal.
use Rattle.race_shards.proofs.WalkSteps.{reads_at, may_step, steps_on, stamps_it}
use Rattle.race_shards.proofs.walk.step.Goals as goal

pub step-requires : goal.step-requires
step-requires g c =
    let here = reads_at c.events.result.now c.args.trace.now.events c.args.at c.index-events-at.result c.events.ensures.events c.requires.inside c.index-events-at.is in
    may_step c.args.trace.now c.events.ensures.is_trace c.requires.legal c.args.at c.index-events-at.result here c.args.stamper.now c.requires.stands

pub returns-clause-stands : goal.returns-clause-stands
returns-clause-stands g c =
    let here = reads_at c.events.result.now c.args.trace.now.events c.args.at c.index-events-at.result c.events.ensures.events c.requires.inside c.index-events-at.is in
    steps_on c.args.trace.now c.events.ensures.is_trace c.requires.legal c.args.at c.index-events-at.result here c.args.stamper.now c.requires.stands
    c.step.result c.step.new.self c.step.ensures.goes_on

pub returns-clause-stamp : goal.returns-clause-stamp
returns-clause-stamp g c =
    let here = reads_at c.events.result.now c.args.trace.now.events c.args.at c.index-events-at.result c.events.ensures.events c.requires.inside c.index-events-at.is in
    stamps_it c.args.trace.now c.events.ensures.is_trace c.requires.legal c.args.at c.index-events-at.result here c.args.stamper.now c.requires.stands
    c.step.result c.step.new.self c.step.ensures.goes_on c.step.ensures.stamp c.step.ensures.clock
