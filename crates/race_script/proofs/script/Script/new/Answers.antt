use Rattle.std.proofs.{Common.{◌≡◌, ◌++◌, ◌∷◌, [], take, Some, refl, ap, sym, ◌∙◌, arith}, lemmas.Result.IfOk-from_err}
use Rattle.std.proofs.lemmas.{List.{take_all, take_more}, Option.{slice_get_within, get_or_from_slice_get}}
use Rattle.race_requests.specs.declared.request.Request.{Request}
use Rattle.race_script.{specs.{Bodies.is_body, Program.asks_of}, proofs.BodyLemmas.{body_is, script_begins}}
use Rattle.race_script.proofs.script.Script.new.Goals as goal

pub invariant_of-result : goal.invariant_of-result
invariant_of-result g c =
    let body = c.body-body.result.now.items in
    let end = c.loop-step-test.false in
    let count = c.len-step-end.ensures in
    let all : c.loop-step.whole.items ≡ body = c.loop-step.invariant ∙ take_all c.loop-step.step body (omega (arith, end, count)) in
    let is = ap (λ b. is_body (asks_of b)) all ∙ body_is c.args.program.now c.body-body.ensures.program c.args.goroutine body c.body-body.ensures.body in
    (is, script_begins c.loop-step.whole.items is)

pub returns-in_err-push-clause-whole : goal.returns-in_err-push-clause-whole
returns-in_err-push-clause-whole g c = IfOk-from_err _ _ c.from_residual.ensures.0

pub returns-in_err-push-clause-position : goal.returns-in_err-push-clause-position
returns-in_err-push-clause-position g c = IfOk-from_err _ _ c.from_residual.ensures.0

pub returns-clause-position : goal.returns-clause-position
returns-clause-position g c = refl

pub returns-clause-whole : goal.returns-clause-whole
returns-clause-whole g c =
    let body = c.body-body.result.now.items in
    let end = c.loop-step-test.false in
    let count = c.len-step-end.ensures in
    c.body-body.ensures.body ∙ ap Some (sym (c.loop-step.invariant ∙ take_all c.loop-step.step body (omega (arith, end, count))))

pub loop-step-preserved : goal.loop-step-preserved
loop-step-preserved g c =
    let body = c.body-body.result.now.items in
    let k = c.loop-step.step in
    let r = c.get.result in
    let more = take_more body k r (slice_get_within body k r c.get.ensures) in
    c.in_ok-push.ensures.ok ∙ (λ i. c.loop-step.invariant i ++ r ∷ [])
    ∙ sym (more ∙ ap (λ (x : Request). take k body ++ x ∷ []) (get_or_from_slice_get body k r r c.get.ensures))
