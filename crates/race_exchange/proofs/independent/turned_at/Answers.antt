use Rattle.std.proofs.Common.{sym, ◌∙◌}
use Rattle.race_exchange.specs.Independent.{are_turned}
use Rattle.race_exchange.proofs.FirstTurned.{none_of_two, none_of_all, none_on, first_turned}
use Rattle.race_exchange.proofs.independent.turned_at.Goals as goal

pub loop-at-init : goal.loop-at-init
loop-at-init c = none_of_two are_turned c.args.events.now

pub loop-at-preserved : goal.loop-at-preserved
loop-at-preserved c = none_on c.args.events.now c.loop-at.at c.index-events-at.result c.index-events-at-in-loop-at.result
    (record { two = c.loop-at.auto.at; within = c.loop-at-test.true; first = c.index-events-at.is; second = c.index-events-at-in-loop-at.is })
    (sym c.are_turned.ensures ∙ c.if-are_turned.false) c.loop-at.invariant

pub returns-then-are_turned : goal.returns-then-are_turned
returns-then-are_turned c = first_turned c.args.events.now c.loop-at.at c.index-events-at.result c.index-events-at-in-loop-at.result
    (record { two = c.loop-at.auto.at; within = c.loop-at-test.true; first = c.index-events-at.is; second = c.index-events-at-in-loop-at.is })
    (sym c.are_turned.ensures ∙ c.if-are_turned.true) c.loop-at.invariant

pub returns : goal.returns
returns c = none_of_all are_turned c.args.events.now c.loop-at.at c.loop-at-test.false c.loop-at.invariant
