use Rattle.std.proofs.Common.{◌≡◌, ℕ, Option, Some, is_some, slice_get, ap, sym, subst, ◌∙◌, true≢false}
use Rattle.std.proofs.lemmas.Option.{slice_get_within, same_Some}
use Rattle.race_requests.specs.Table.{done_by}
use Rattle.race_script.{specs.{Course.IsPassed, Program.spelled}, proofs.PassedLemmas.{made_is, passes_no_step}}
use Rattle.race_script.proofs.PassedLemmas.{passes_step, passes_no_fit}
use Rattle.race_script.proofs.course.Course.passed.Goals.{else-can_make-via-then-can_make+else-stand_alike}
use Rattle.race_script.proofs.course.Course.passed.Goals.{else-can_make-via-else-can_make}
use Rattle.race_script.proofs.course.Course.passed.Goals as goal

pub returns-then-stand_alike : goal.returns-then-stand_alike
returns-then-stand_alike g c = λ e fits fails.
    let course = c.args.self.now in
    let made = c.made_in.ensures ∙ made_is course.goroutine c.args.step.now course.fault e fits fails in
    let is : c.in_ok-made.made ≡ done_by course.goroutine e.op = same_Some _ _ (sym c.in_ok-made.was ∙ made) in
    let at : slice_get course.body.now.items c.args.position ≡ Some c.in_ok-request.request = sym c.at.ensures ∙ c.in_ok-request.was in
    passes_step course.places.now.places course.recorded.now.places course.body.now.items course.goroutine c.args.position c.args.step.now e fits
    c.in_ok-request.request c.in_ok-made.made c.behind.result at is
    (c.can_make.ensures.0 c.if-can_make.true) (c.stand_alike.ensures.0 c.if-stand_alike.true)
    c.behind.ensures

pub returns-else-can_make : goal.returns-else-can_make
returns-else-can_make g c = λ e fits fails.
    let course = c.args.self.now in
    let made = c.made_in.ensures ∙ made_is course.goroutine c.args.step.now course.fault e fits fails in
    let is : c.in_ok-made.made ≡ done_by course.goroutine e.op = same_Some _ _ (sym c.in_ok-made.was ∙ made) in
    let at : slice_get course.body.now.items c.args.position ≡ Some c.in_ok-request.request = sym c.at.ensures ∙ c.in_ok-request.was in
    passes_no_fit course.places.now.places course.recorded.now.places course.body.now.items course.goroutine c.args.position c.args.step.now e fits
    c.in_ok-request.request c.in_ok-made.made at is
    (λ can alike. elim c.else-can_make.branch [
      | else-can_make-via-then-can_make+else-stand_alike w ↦ true≢false (sym (w.stand_alike.ensures.1 alike) ∙ w.if-stand_alike.false)
      | else-can_make-via-else-can_make w ↦ true≢false (sym (c.can_make.ensures.1 can) ∙ w.if-can_make.false)
    ])

pub returns-in_err-request : goal.returns-in_err-request
returns-in_err-request g c = λ e fits fails.
    let course = c.args.self.now in
    subst (λ (next : Option ℕ). IsPassed (spelled course.places.now.places course.body.now.items) course.recorded.now.places course.goroutine c.args.position e next)
    (sym c.from_residual.ensures)
    (passes_no_step course.places.now.places course.recorded.now.places course.body.now.items course.goroutine c.args.position c.args.step.now e fits
    (sym c.at.ensures ∙ c.in_err-request.was))

pub behind-requires : goal.behind-requires
behind-requires g c =
    slice_get_within c.args.self.now.body.now.items c.args.position c.in_ok-request.request
    (sym c.at.ensures ∙ c.in_ok-request.was)

pub returns-in_err-made : goal.returns-in_err-made
returns-in_err-made g c = λ e fits fails.
    let course = c.args.self.now in
    let made = c.made_in.ensures ∙ made_is course.goroutine c.args.step.now course.fault e fits fails in
    absurd (true≢false (ap is_some (sym made ∙ c.in_err-made.was)))
