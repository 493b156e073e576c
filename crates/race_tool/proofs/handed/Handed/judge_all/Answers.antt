-- The judge takes the events that were left to it.
use Rattle.std.proofs.Common.{List, Option, Some, refl, sym, subst}
use Rattle.race_records.specs.declared.event.Event.{Event}
use Rattle.race_shards.specs.Judging.{JudgeState, GoesOn}
use Rattle.race_tool.{specs.Streams.IsHanded, proofs.StreamedLemmas.all_judged}
use Rattle.race_tool.proofs.handed.Handed.judge_all.Goals as goal

pub returns-in-Ok : goal.returns-in-Ok
returns-in-Ok g c =
    let old = c.in-Some.judge in
    let new = c.feed.new.self in
    let events = c.args.self.now.events.items in
    let goes : GoesOn old events new = subst (λ (es : List Event). GoesOn old es new) c.as_slice.ensures.value c.in-Ok.ensures.goes_on in
    record {
      none = c.clear.ensures.items;
      judging = refl;
      goes_on = λ k h.
          subst (λ (es : List Event). IsHanded k (Some new) es) (sym {A = List Event} c.clear.ensures.items)
          (all_judged old new events goes k (subst (λ (o : Option JudgeState). IsHanded k o events) c.in-Some.is h));
    }
