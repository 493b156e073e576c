use Rattle.std.proofs.{lemmas.{Grind.common_steps, Result.IfOk-from_err}, Common.arith}
use Rattle.race_clock.proofs.clocks.Clocks.meet.Goals as goal

pub returns-clause-ok : goal.returns-clause-ok
returns-clause-ok g c = grind (arith, common_steps) steps 1000000

pub returns-in_err-become_join : goal.returns-in_err-become_join
returns-in_err-become_join g c = record {
  ok = IfOk-from_err _ _ c.from_residual.ensures.0;
  unchanged = grind (arith, common_steps) steps 500000;
}

pub returns-in_err-become_copy : goal.returns-in_err-become_copy
returns-in_err-become_copy g c = record {
  ok = IfOk-from_err _ _ c.from_residual-in_err-become_copy.ensures.0;
  unchanged = grind (arith, common_steps) steps 500000;
}
