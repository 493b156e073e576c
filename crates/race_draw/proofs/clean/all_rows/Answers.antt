use Rattle.std.proofs.Common.{[], ◌∷◌, ◌++◌, sym, ap, ◌∙◌}
use Rattle.race_draw.proofs.PictureLemmas.{range_more}
use Rattle.race_draw.proofs.clean.all_rows.Goals as goal

pub loop-event-preserved : goal.loop-event-preserved
loop-event-preserved g c = record {
  so_far = c.in_ok-push.ensures.items ∙ ap (λ l. l ++ c.loop-event.event ∷ []) c.loop-event.invariant.so_far ∙ sym (range_more c.loop-event.event);
}
