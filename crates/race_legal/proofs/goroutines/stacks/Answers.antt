-- At the end the loop has counted to the count.
use Rattle.std.proofs.{Common.{◌≡◌, ◌∙◌, ℕ, [], replicate, ap, arith}, lemmas.Grind.common_steps}
use Rattle.std.proofs.lemmas.Result.{IfOk-from_err}
use Rattle.race_legal.proofs.goroutines.stacks.Goals as goal

pub returns-in_err-stacks : goal.returns-in_err-stacks
returns-in_err-stacks g c = IfOk-from_err _ _ c.from_residual.ensures.0

pub returns-in_err-push : goal.returns-in_err-push
returns-in_err-push g c = IfOk-from_err _ _ c.from_residual-in_err-push.ensures.0

pub loop-preserved : goal.loop-preserved
loop-preserved g c = grind (arith, common_steps) steps 500000

pub returns : goal.returns
returns g c = let done : c.loop.counter ≡ c.args.count = omega arith in c.loop.invariant ∙ ap (λ (n : ℕ). replicate n []) done
