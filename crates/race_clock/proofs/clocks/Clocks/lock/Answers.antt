use Rattle.std.proofs.{Common.arith, lemmas.{Grind.common_steps, Result.IfOk-from_err}}
use Rattle.race_clock.proofs.clocks.Clocks.lock.Goals as goal

pub returns-in_err-lock-clause-ok : goal.returns-in_err-lock-clause-ok
returns-in_err-lock-clause-ok g c = IfOk-from_err _ _ c.from_residual.ensures.0

pub returns-in_err-lock-clause-unchanged : goal.returns-in_err-lock-clause-unchanged
returns-in_err-lock-clause-unchanged g c = grind (arith, common_steps) steps 500000

pub returns-clause-unchanged : goal.returns-clause-unchanged
returns-clause-unchanged g c = tt
