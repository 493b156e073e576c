use Rattle.std.proofs.{Common.arith, lemmas.{Grind.common_steps, Result.IfOk-from_err}}
use Rattle.race_clock.proofs.JoinLemmas.{fill_opened}
use Rattle.race_clock.proofs.clocks.Clocks.send.Goals as goal

pub returns-in_err-hand_to_send : goal.returns-in_err-hand_to_send
returns-in_err-hand_to_send g c = record {
  ok = IfOk-from_err _ _ c.from_residual.ensures.0;
  unchanged = grind (arith, common_steps) steps 500000;
}

pub returns-in_err-open_send : goal.returns-in_err-open_send
returns-in_err-open_send g c = record {
  ok = IfOk-from_err _ _ c.from_residual-in_err-open_send.ensures.0;
  unchanged = grind (arith, common_steps) steps 500000;
}

pub exchange-requires : goal.exchange-requires
exchange-requires g c = grind (arith, common_steps) steps 500000

pub returns-clause-ok : goal.returns-clause-ok
returns-clause-ok g c = grind (arith, common_steps, fill_opened) steps 2000000
