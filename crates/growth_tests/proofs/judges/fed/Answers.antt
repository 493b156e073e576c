-- The events of a trace may be fed to a judge that was made for its declarations.
use Rattle.std.proofs.Common.{List, sym, subst}
use Rattle.race_records.specs.declared.event.Event.{Event}
use Rattle.race_shards.{specs.Judging.CanTake, proofs.JudgeSteps.can_take_all}
use Rattle.growth_tests.proofs.judges.fed.Goals as goal

pub feed-requires-after_bounds : goal.feed-requires-after_bounds
feed-requires-after_bounds g c κs within =
    subst (λ (es : List Event). CanTake c.args.judge es) (sym c.events.ensures.events)
    (can_take_all c.args.trace.now c.events.ensures.is_trace c.args.judge c.requires)
