-- At the end the loop has counted to the count.
use Rattle.std.proofs.{Common.{◌≡◌, ◌∙◌, ℕ, replicate, ap, arith}, lemmas.{Grind.common_steps, Result.IfOk-from_err}}
use Rattle.race_clock.specs.ClocksState.{no_lock}
use Rattle.race_clock.proofs.clocks.first_locks.Goals as goal

pub returns-in_err-push : goal.returns-in_err-push
returns-in_err-push g c = IfOk-from_err _ _ c.from_residual.ensures.0

pub loop-preserved : goal.loop-preserved
loop-preserved g c = grind (arith, common_steps) steps 500000

pub returns : goal.returns
returns g c = let done : c.loop.counter ≡ c.args.locks = omega arith in c.loop.invariant ∙ ap (λ (n : ℕ). replicate n no_lock) done
