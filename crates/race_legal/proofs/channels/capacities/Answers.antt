-- The exit of a failed push has nothing to tell.
use Rattle.std.proofs.lemmas.Result.{IfOk-from_err}
use Rattle.race_legal.proofs.channels.capacities.Goals as goal

pub returns-in_err-push-clause-len : goal.returns-in_err-push-clause-len
returns-in_err-push-clause-len g c = IfOk-from_err _ _ c.from_residual.ensures.0

pub returns-in_err-push-clause-each : goal.returns-in_err-push-clause-each
returns-in_err-push-clause-each g c = IfOk-from_err _ _ c.from_residual.ensures.0
