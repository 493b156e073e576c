use Rattle.std.proofs.Common.{◌<◌, [], ◌∷◌, ◌++◌, length, get_or, ap, sym, ◌∙◌, arith}
use Rattle.std.proofs.lemmas.Option.{slice_get-get_or, slice_get_within}
use Rattle.race_predict.proofs.AttemptLemmas.{events_next}
use Rattle.race_predict.proofs.certify.trace_of.Goals as goal

pub event-requires : goal.event-requires
event-requires g c =
    let order = c.args.order.now in
    let k = c.loop-k.k in
    let less : k < length order = let on = c.loop-k-test.true in let end = c.saturating_sub-k-end.ensures in omega (arith, on, end) in
    let (e, at, found) = c.requires.each k (get_or order k 0) (slice_get-get_or order k 0 less) in
    slice_get_within c.args.recorded.now.events (get_or order k 0) e at

pub loop-k-preserved : goal.loop-k-preserved
loop-k-preserved g c =
    let order = c.args.order.now in
    let k = c.loop-k.k in
    let e = c.event.result.now in
    let less : k < length order = let on = c.loop-k-test.true in let end = c.saturating_sub-k-end.ensures in omega (arith, on, end) in
    record {
      decls = c.in_ok-put.ensures.decls ∙ c.loop-k.invariant.decls;
      events = c.in_ok-put.ensures.events ∙ ap (λ e. c.loop-k.trace.events ++ e ∷ []) c.copy-in-loop-k.ensures
          ∙ ap (λ es. es ++ e ∷ []) c.loop-k.invariant.events
          ∙ sym (events_next c.args.recorded.now.events order k (get_or order k 0) e (slice_get-get_or order k 0 less) c.event.ensures.event);
    }
