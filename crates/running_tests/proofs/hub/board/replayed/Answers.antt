-- The events up to the index are accepted.
use Rattle.std.proofs.Common.{List, sym, subst, take}
use Rattle.race_records.specs.declared.event.Event.{Event}
use Rattle.race_legal.{specs.StandsFor.StandsFor, proofs.{Fronts.take_next, RangeLemmas.in_range}}
use Rattle.running_tests.proofs.hub.board.replayed.Goals as goal

pub accept-requires-clause-range : goal.accept-requires-clause-range
accept-requires-clause-range c =
    in_range c.args.trace.now.decls c.loop-at.replay (take c.loop-at.at c.args.trace.now.events)
    c.event.result.now c.loop-at.invariant.stands c.event.ensures.fits

pub loop-at-preserved : goal.loop-at-preserved
loop-at-preserved c = record {
  stands =
      subst (λ (past : List Event). StandsFor c.args.trace.now.decls.declarations c.accept.new.self past)
      (sym (take_next c.args.trace.now.events c.loop-at.at c.event.result.now c.event.ensures.event))
      (c.in-Ok.ensures.goes_on c.args.trace.now.decls.declarations (take c.loop-at.at c.args.trace.now.events) c.loop-at.invariant.stands);
}
