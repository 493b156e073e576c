use Rattle.std.proofs.{lemmas.Grind.common_steps, Common.arith}
use Rattle.race_clock.proofs.thread_clock.ThreadClock.tell.Goals as goal

pub pass-requires : goal.pass-requires
pass-requires c = grind (arith, common_steps) steps 300000
