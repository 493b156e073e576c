use Rattle.std.proofs.{lemmas.Grind.{common_steps, elements}, Common.arith}
use Rattle.race_requests.proofs.board.WaitingList.next_receiver.Goals as goal

pub bounds-waiting-place : goal.bounds-waiting-place
bounds-waiting-place c = grind (arith, common_steps) steps 300000

pub loop-place-preserved : goal.loop-place-preserved
loop-place-preserved c = grind (arith, elements) steps 1000000
