-- The events of a legal trace may come one after another.
use Rattle.std.proofs.Common.{◌+◌, List, ◌∷◌, ◌++◌, [], sym, subst, take}
use Rattle.race_records.specs.declared.event.Event.{Event}
use Rattle.race_model.{specs.Legal.IsLegal, proofs.LegalSteps.legal_take}
use Rattle.race_legal.proofs.Fronts.{take_next}
use Rattle.race_clock.{specs.StandsFor.StandsFor, proofs.NextFrom.{allowed_last, may_come, room_at}}
use Rattle.race_verdict.specs.Traces.{capacities}
use Rattle.growth_tests.proofs.stamps.step_each.Goals as goal

pub last_step-requires-clause-next : goal.last_step-requires-clause-next
last_step-requires-clause-next c =
    let trace = c.args.trace.now in
    let e : Event = c.event-event.result.now in
    let past = take c.loop-at.at trace.events in
    let legal = subst (IsLegal (capacities trace)) (take_next trace.events c.loop-at.at e c.event-event.ensures.event)
    (legal_take (capacities trace) trace.events (c.loop-at.at + 1) c.requires.legal) in
    may_come trace.decls c.loop-at.stamper past e c.loop-at.invariant.stands c.event-event.ensures.fits legal
    (room_at trace.events c.loop-at.at e c.event-event.ensures.event c.len-at-end.ensures.is_trace.limited)

pub step-requires : goal.step-requires
step-requires c =
    let trace = c.args.trace.now in
    let e : Event = c.event-event.result.now in
    let past = take c.loop-at.at trace.events in
    let legal = subst (IsLegal (capacities trace)) (take_next trace.events c.loop-at.at e c.event-event.ensures.event)
    (legal_take (capacities trace) trace.events (c.loop-at.at + 1) c.requires.legal) in
    may_come trace.decls c.loop-at.stamper past e c.loop-at.invariant.stands c.event-event.ensures.fits legal
    (room_at trace.events c.loop-at.at e c.event-event.ensures.event c.len-at-end.ensures.is_trace.limited)

pub loop-at-preserved : goal.loop-at-preserved
loop-at-preserved c =
    let trace = c.args.trace.now in
    let e : Event = c.event-event.result.now in
    let past = take c.loop-at.at trace.events in
    let next = take_next trace.events c.loop-at.at e c.event-event.ensures.event in
    let legal = subst (IsLegal (capacities trace)) next (legal_take (capacities trace) trace.events (c.loop-at.at + 1) c.requires.legal) in
    let stepped = c.in-Ok.ensures.goes_on trace.decls.declarations past c.loop-at.invariant.stands (allowed_last (capacities trace) past e legal) in
    record { stands = subst (λ (past : List Event). StandsFor trace.decls.declarations c.step.new.self past) (sym next) stepped }
