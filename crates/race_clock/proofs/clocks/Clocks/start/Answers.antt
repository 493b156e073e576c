use Rattle.std.proofs.{Common.arith, lemmas.{Grind.common_steps, Result.IfOk-from_err}}
use Rattle.race_clock.proofs.clocks.Clocks.start.Goals as goal

pub returns-in_err-become_join : goal.returns-in_err-become_join
returns-in_err-become_join g c = record {
  ok = IfOk-from_err _ _ c.from_residual.ensures.0;
  unchanged = grind (arith, common_steps) steps 500000;
}

pub returns-clause-ok : goal.returns-clause-ok
returns-clause-ok g c = grind (arith, common_steps) steps 1000000
