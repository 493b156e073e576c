use Rattle.std.proofs.Common.{◌≡◌, ◌∙◌, ◌++◌, ◌∷◌, [], length, sym, ap, subst, arith, true≢false, slice_get, Some, None}
use Rattle.race_hub.{specs.Tracks.{TrackState, IsPassed}, proofs.TrackLemmas.{passes_one, passes_no_step}}
use Rattle.race_hub.proofs.TrackLemmas.{passes_no_fit, passes_never}
use Rattle.race_hub.proofs.track.Track.passed_with.Goals.{else-at-len-via-then-at-len+else-fits_step}
use Rattle.race_hub.proofs.track.Track.passed_with.Goals.{else-at-len-via-else-at-len}
use Rattle.race_hub.proofs.track.Track.passed_with.Goals as goal

pub returns-in_err-at : goal.returns-in_err-at
returns-in_err-at g c past tracked =
    let was : c.args.self.now.passed ≡ None = ap (λ (t : TrackState). t.passed) (sym c.self.view_is) ∙ c.in_err-at.was in
    subst (IsPassed c.args.goroutine c.args.self.now.log (past ++ c.args.event.now ∷ [])) (sym c.from_residual.ensures)
    (passes_never c.args.goroutine c.args.self.now.log past c.args.event.now c.requires
    (subst (IsPassed c.args.goroutine c.args.self.now.log past) was tracked))

pub returns-then-fits_step : goal.returns-then-fits_step
returns-then-fits_step g c past tracked =
    let log = ap (λ (t : TrackState). t.log) c.self.view_is in
    let was : c.args.self.now.passed ≡ Some c.in_ok-at.at = ap (λ (t : TrackState). t.passed) (sym c.self.view_is) ∙ c.in_ok-at.was in
    let step = ap (λ xs. slice_get xs c.in_ok-at.at) (sym log) ∙ c.step.ensures in
    passes_one c.args.goroutine c.args.self.now.log past c.args.event.now c.in_ok-at.at c.step.result c.requires
    (subst (IsPassed c.args.goroutine c.args.self.now.log past) was tracked) step (c.fits_step.ensures.0 c.if-fits_step.true)

pub returns-else-at-len : goal.returns-else-at-len
returns-else-at-len g c past tracked =
    let log = ap (λ (t : TrackState). t.log) c.self.view_is in
    let was : c.args.self.now.passed ≡ Some c.in_ok-at.at = ap (λ (t : TrackState). t.passed) (sym c.self.view_is) ∙ c.in_ok-at.was in
    let passed = subst (IsPassed c.args.goroutine c.args.self.now.log past) was tracked in
    let count = c.len.ensures in
    elim c.else-at-len.branch [
      | else-at-len-via-then-at-len+else-fits_step w ↦
          passes_no_fit c.args.goroutine c.args.self.now.log past c.args.event.now c.in_ok-at.at w.step.result c.requires passed
          (ap (λ xs. slice_get xs c.in_ok-at.at) (sym log) ∙ w.step.ensures)
          (λ fits. true≢false (sym (w.fits_step.ensures.1 fits) ∙ w.if-fits_step.false))
      | else-at-len-via-else-at-len w ↦
          let more = w.if-at-len.false in
          let same = ap length log in
          passes_no_step c.args.goroutine c.args.self.now.log past c.args.event.now c.in_ok-at.at c.requires passed (omega (arith, more, count, same))
    ]
