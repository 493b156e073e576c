use Rattle.std.proofs.{Common.arith, lemmas.Grind.{common_steps, elements}}
use Rattle.race_clock.proofs.JoinLemmas.{joined_front_none}
use Rattle.race_clock.proofs.channel.Queue.join_front.Goals as goal

pub returns-in-Some : goal.returns-in-Some
returns-in-Some g c = grind (arith, elements) steps 500000

pub returns-in-None : goal.returns-in-None
returns-in-None g c = grind (arith, common_steps, joined_front_none) steps 500000
