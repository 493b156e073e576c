use Rattle.std.proofs.lemmas.Result.{IfOk-from_err}
use Rattle.race_clock.proofs.clock.Clock.become_join.Goals as goal

pub returns-in_err-become_copy : goal.returns-in_err-become_copy
returns-in_err-become_copy g c = IfOk-from_err _ _ c.from_residual.ensures.0

pub returns-in_err-become_copy-2 : goal.returns-in_err-become_copy-2
returns-in_err-become_copy-2 g c = IfOk-from_err _ _ c.from_residual-in_err-become_copy-2.ensures.0
