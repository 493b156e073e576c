use Rattle.std.proofs.Common.{◌+◌, length, take, ap, subst, sym, ◌∙◌}
use Rattle.race_model.specs.Events.{partner}
use Rattle.race_predict.specs.Fronts.{Counts, ArePositions}
use Rattle.race_predict.proofs.{AttemptLemmas.rows_from_fits, FrontLemmas.len_counted}
use Rattle.race_predict.proofs.PositionLemmas.{counts_next, position_is, positions_push}
use Rattle.race_predict.proofs.positions.positions_of.Goals as goal

pub position_by-requires-clause-who : goal.position_by-requires-clause-who
position_by-requires-clause-who g c = (rows_from_fits c.args.trace.now c.loop-at.counts.items c.event-event.result.now c.event-event.ensures.fits c.loop-at.invariant.rows).0

pub position_by-requires-clause-partner : goal.position_by-requires-clause-partner
position_by-requires-clause-partner g c = (rows_from_fits c.args.trace.now c.loop-at.counts.items c.event-event.result.now c.event-event.ensures.fits c.loop-at.invariant.rows).1

pub count_parts-requires-clause-who : goal.count_parts-requires-clause-who
count_parts-requires-clause-who g c = (rows_from_fits c.args.trace.now c.loop-at.counts.items c.event-event.result.now c.event-event.ensures.fits c.loop-at.invariant.rows).0

pub count_parts-requires-clause-partner : goal.count_parts-requires-clause-partner
count_parts-requires-clause-partner g c = (rows_from_fits c.args.trace.now c.loop-at.counts.items c.event-event.result.now c.event-event.ensures.fits c.loop-at.invariant.rows).1

pub loop-at-preserved : goal.loop-at-preserved
loop-at-preserved g c =
    let e = c.event-event.result.now in
    let events = c.args.trace.now.events in
    let at = c.event-event.ensures.event in
    let counts = c.loop-at.counts.items in
    let (who, other) = rows_from_fits c.args.trace.now c.loop-at.counts.items c.event-event.result.now c.event-event.ensures.fits c.loop-at.invariant.rows in
    let so_far = c.loop-at.invariant.counts in
    let limited = c.len.ensures.is_trace.limited in
    record {
      rows = ap length c.count_parts.ensures ∙ len_counted counts e.who (partner e.op) ∙ c.loop-at.invariant.rows;
      counts = subst (λ xs. Counts xs (take (c.loop-at.at + 1) events)) (sym c.count_parts.ensures)
          (counts_next events c.loop-at.at e at counts who other so_far limited);
      positions = subst (ArePositions events (c.loop-at.at + 1)) (sym c.in_ok-push.ensures.items)
          (positions_push events c.loop-at.at e at counts who other so_far c.loop-at.positions.items c.position_by.result c.loop-at.invariant.positions
          (position_is events c.loop-at.at e at counts who other so_far c.position_by.result c.position_by.ensures.own c.position_by.ensures.partners));
    }
