use Rattle.std.proofs.{Common.arith, lemmas.{Grind.common_steps, Result.IfOk-from_err}}
use Rattle.race_clock.proofs.JoinLemmas.{joined_nothing}
use Rattle.race_clock.proofs.clocks.Clocks.unlock.Goals as goal

pub returns-in_err-begin : goal.returns-in_err-begin
returns-in_err-begin g c = record {
  ok = IfOk-from_err _ _ c.from_residual.ensures.0;
  unchanged = grind (arith, common_steps) steps 500000;
}

pub returns-in_err-unlock : goal.returns-in_err-unlock
returns-in_err-unlock g c = record {
  ok = IfOk-from_err _ _ c.from_residual-in_err-unlock.ensures.0;
  unchanged = grind (arith, common_steps) steps 500000;
}

pub begin-requires : goal.begin-requires
begin-requires g c = grind (arith, common_steps) steps 500000

pub pass-requires : goal.pass-requires
pass-requires g c = grind (arith, common_steps) steps 500000

pub returns-clause-ok : goal.returns-clause-ok
returns-clause-ok g c = grind (arith, common_steps, joined_nothing) steps 2000000
