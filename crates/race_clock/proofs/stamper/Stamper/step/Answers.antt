-- That the event may come next gives what the step needs, and the next state stands for the longer list.
use Rattle.std.proofs.Common.{◌+◌, ◌∙◌, ap, sym, subst}
use Rattle.race_clock.specs.{ClocksState.after, StamperState.StamperState, Needs.{HasClocks, CountsFit, OpKnowsUnlocks}}
use Rattle.race_clock.proofs.{NextLemmas.{is_apart, has_clocks, counts_fit, knows_unlocks}, StamperSteps.{next_stands, next_counts}}
use Rattle.race_clock.proofs.stamper.Stamper.step.Goals as goal

pub take-requires : goal.take-requires
take-requires g c = record {
  range = subst (λ (k : StamperState). HasClocks k.clocks c.args.event.now.who c.args.event.now.op) (sym c.self.view_is)
      (has_clocks c.requires.declarations c.args.self.now c.requires.past c.requires.stands c.args.event.now c.requires.in_range);
  apart = is_apart c.requires.declarations c.requires.past c.args.event.now c.requires.allowed;
  counts = subst (λ (k : StamperState). CountsFit k.clocks c.args.event.now.who c.args.event.now.op) (sym c.self.view_is)
      (counts_fit c.requires.declarations c.args.self.now c.requires.past c.requires.stands c.args.event.now c.requires.in_range c.requires.room);
  unlocks = subst (λ (k : StamperState). OpKnowsUnlocks k.clocks c.args.event.now.who c.args.event.now.op) (sym c.self.view_is)
      (knows_unlocks c.requires.declarations c.args.self.now c.requires.past c.requires.stands c.args.event.now c.requires.in_range);
}

pub returns-clause-goes_on : goal.returns-clause-goes_on
returns-clause-goes_on g c declarations past S allowed =
    next_stands declarations c.args.self.now past S c.args.event.now
    (has_clocks c.requires.declarations c.args.self.now c.requires.past c.requires.stands c.args.event.now c.requires.in_range) c.take.new.self
    (c.in_ok-take.ensures.ok ∙ ap (λ (k : StamperState). after k.clocks c.args.event.now.who c.args.event.now.op) c.self.view_is) allowed
    (c.self.inside.len + 1) (ap (λ (k : StamperState). k.len + 1) c.self.view_is)

pub returns-clause-clock : goal.returns-clause-clock
returns-clause-clock g c is declarations past S =
    next_counts declarations c.args.self.now past S c.args.event.now
    (has_clocks c.requires.declarations c.args.self.now c.requires.past c.requires.stands c.args.event.now c.requires.in_range) c.take.new.self
    (c.in_ok-take.ensures.ok ∙ ap (λ (k : StamperState). after k.clocks c.args.event.now.who c.args.event.now.op) c.self.view_is) is
