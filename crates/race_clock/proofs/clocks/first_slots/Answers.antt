-- At the end the loop has counted to the count.
use Rattle.std.proofs.{Common.{◌≡◌, ◌∙◌, [], ◌∷◌, ◌++◌, ap, add-one, arith}, lemmas.Result.IfOk-from_err}
use Rattle.race_clock.specs.ClocksState.{ThreadClockState, first_slots}
use Rattle.race_clock.proofs.clocks.first_slots.Goals as goal

pub returns-in_err-new : goal.returns-in_err-new
returns-in_err-new g c = IfOk-from_err _ _ c.from_residual.ensures.0

pub returns-in_err-push : goal.returns-in_err-push
returns-in_err-push g c = IfOk-from_err _ _ c.from_residual-in_err-push.ensures.0

pub loop-who-preserved : goal.loop-who-preserved
loop-who-preserved g c =
    rw (c.in_ok-push.ensures.items, c.loop-who.invariant, add-one) (ap (λ (s : ThreadClockState). first_slots c.loop-who.who ++ s ∷ []) c.in_ok-new.ensures)

pub returns : goal.returns
returns g c = let done : c.loop-who.who ≡ c.args.goroutines = omega arith in c.loop-who.invariant ∙ ap first_slots done
