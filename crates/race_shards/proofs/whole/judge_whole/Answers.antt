use Rattle.std.proofs.{Common.{◌≡◌, [], List, inr, sym, subst}, lemmas.Result.{IfOk-weaker, IfErr-weaker}}
use Rattle.race_records.specs.{declared.event.Event.Event, Declarations.DeclsState}
use Rattle.race_shards.specs.{declared.fault.JudgeFault.JudgeFault, Limits.IsRefused}
use Rattle.race_shards.{specs.Judging.{StandsFor, CanTake, GoesOn}, proofs.JudgeSteps.can_take_all}
use Rattle.race_shards.proofs.whole.judge_whole.Goals as goal

pub feed_in_blocks-requires-clause-can : goal.feed_in_blocks-requires-clause-can
feed_in_blocks-requires-clause-can g c κs within =
    let judge = c.in_ok-judge.judge in
    let first = subst (λ (d : DeclsState). StandsFor d.declarations judge []) c.decls.ensures.decls c.in_ok-judge.ensures.stands in
    subst (λ (es : List Event). CanTake judge es) (sym c.events.ensures.events) (can_take_all c.args.trace.now c.events.ensures.is_trace judge first)

pub returns-clause-verdict : goal.returns-clause-verdict
returns-clause-verdict g c =
    let trace = c.args.trace.now in
    let judge = c.in_ok-judge.judge in
    let first = subst (λ (d : DeclsState). StandsFor d.declarations judge []) c.decls.ensures.decls c.in_ok-judge.ensures.stands in
    let goes = subst (λ (es : List Event). GoesOn judge es c.feed_in_blocks.new.self) c.events.ensures.events c.in_ok-feed_in_blocks.ensures.goes_on in
    IfOk-weaker c.finish.result _ _ (λ verdict tells. tells trace.decls.declarations trace.events (goes trace.decls.declarations [] first)) c.finish.ensures.tells

pub returns-clause-others : goal.returns-clause-others
returns-clause-others g c =
    let trace = c.args.trace.now in
    let judge = c.in_ok-judge.judge in
    let first = subst (λ (d : DeclsState). StandsFor d.declarations judge []) c.decls.ensures.decls c.in_ok-judge.ensures.stands in
    let goes = subst (λ (es : List Event). GoesOn judge es c.feed_in_blocks.new.self) c.events.ensures.events c.in_ok-feed_in_blocks.ensures.goes_on in
    IfErr-weaker c.finish.result (λ (f : JudgeFault). f ≡ JudgeFault.OutOfMemory) IsRefused (λ f is. inr is)
    (c.finish.ensures.others (goes trace.decls.declarations [] first).sound)
