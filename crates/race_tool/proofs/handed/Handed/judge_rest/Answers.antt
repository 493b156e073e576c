-- The judge takes the last events behind those that were handed on.
use Rattle.std.proofs.Common.{List, Some, sym, subst}
use Rattle.race_records.specs.{declared.event.Event.Event, Declarations.DeclsState}
use Rattle.race_shards.specs.Judging.{CanTake, GoesOn}
use Rattle.race_text.specs.Stream.{decls_of}
use Rattle.race_tool.{specs.Streams.IsJudgeOf, proofs.StreamedLemmas.{can_take_next, judged_before}}
use Rattle.race_shards.specs.Judging as judging
use Rattle.race_tool.proofs.handed.Handed.judge_rest.Goals as goal

pub feed-requires-after_bounds : goal.feed-requires-after_bounds
feed-requires-after_bounds g c κs within =
    let k = c.in_ok-judge.judge in
    let begun = subst (λ (ds : DeclsState). (past : List Event) → IsJudgeOf (Some ds.declarations) c.args.self.judge past → judging.StandsFor ds.declarations k past)
    c.decls.ensures c.in_ok-judge.ensures.stands in
    subst (λ (es : List Event). CanTake k es) (sym c.events.ensures.events)
    (can_take_next c.args.self c.args.stream.now k c.requires.none begun c.requires.some c.events.ensures.is_trace)

pub returns-in-Ok : goal.returns-in-Ok
returns-in-Ok g c = λ known lines S.
    let k = c.in_ok-judge.judge in
    let begun = subst (λ (ds : DeclsState). (past : List Event) → IsJudgeOf (Some ds.declarations) c.args.self.judge past → judging.StandsFor ds.declarations k past)
    c.decls.ensures c.in_ok-judge.ensures.stands in
    subst (λ (es : List Event). GoesOn k es c.feed.new.self) c.events.ensures.events c.in-Ok.ensures.goes_on
    (decls_of c.args.stream.now).declarations known.past (judged_before c.args.self c.args.stream.now k c.requires.none begun known lines S)
