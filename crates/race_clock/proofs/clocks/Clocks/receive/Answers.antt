use Rattle.std.proofs.{Common.arith, lemmas.{Grind.common_steps, Result.IfOk-from_err}}
use Rattle.race_clock.proofs.JoinLemmas.{fill_opened}
use Rattle.race_clock.proofs.clocks.Clocks.receive.Goals as goal

pub returns-in_err-hand_to_receive : goal.returns-in_err-hand_to_receive
returns-in_err-hand_to_receive g c = record {
  ok = IfOk-from_err _ _ c.from_residual.ensures.0;
  unchanged = grind (arith, common_steps) steps 500000;
}

pub returns-in_err-open_receive : goal.returns-in_err-open_receive
returns-in_err-open_receive g c = record {
  ok = IfOk-from_err _ _ c.from_residual-in_err-open_receive.ensures.0;
  unchanged = grind (arith, common_steps) steps 500000;
}

pub exchange-requires : goal.exchange-requires
exchange-requires g c = grind (arith, common_steps) steps 500000

pub returns-clause-ok : goal.returns-clause-ok
returns-clause-ok g c = grind (arith, common_steps, fill_opened) steps 2000000
