-- The front of the events up to the index is legal; at the end it is all of them.
use Rattle.std.proofs.Common.{◌≤◌, List, length, Err, ap, sym, subst, take, take_all, arith}
use Rattle.race_records.specs.{declared.event.Event.Event, Declarations.capacity_of}
use Rattle.race_model.specs.Legal.{IsLegal}
use Rattle.race_legal.{specs.StandsFor.StandsFor, proofs.{Fronts.take_next, RangeLemmas.in_range}}
use Rattle.race_legal.proofs.legality.legal.Goals as goal

pub accept-requires-clause-range : goal.accept-requires-clause-range
accept-requires-clause-range g c =
    in_range c.args.trace.now.decls c.loop-at.replay (take c.loop-at.at c.args.trace.now.events)
    c.event.result.now c.loop-at.invariant.stands c.event.ensures.fits

pub returns-in-Rule : goal.returns-in-Rule
returns-in-Rule g c =
    let past = take c.loop-at.at c.args.trace.now.events in
    let least = c.in-Err.ensures.least c.in-Rule.rule (ap Err c.in-Rule.is) c.args.trace.now.decls.declarations past c.loop-at.invariant.stands in
    (c.event.result.now, c.event.ensures.event, least, c.loop-at.invariant.stands.legal)

pub loop-at-preserved : goal.loop-at-preserved
loop-at-preserved g c = record {
  stands =
      subst (λ (past : List Event). StandsFor c.args.trace.now.decls.declarations c.accept.new.self past)
      (sym (take_next c.args.trace.now.events c.loop-at.at c.event.result.now c.event.ensures.event))
      (c.in-Ok.ensures.goes_on c.args.trace.now.decls.declarations (take c.loop-at.at c.args.trace.now.events) c.loop-at.invariant.stands);
}

pub returns : goal.returns
returns g c =
    let all : length c.args.trace.now.events ≤ c.loop-at.at = omega arith in
    subst (IsLegal (capacity_of c.args.trace.now.decls.declarations)) (take_all c.loop-at.at c.args.trace.now.events all) c.loop-at.invariant.stands.legal
