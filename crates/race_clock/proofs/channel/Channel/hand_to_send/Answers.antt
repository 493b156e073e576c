use Rattle.race_clock.proofs.JoinLemmas.{joined_nothing}
use Rattle.std.proofs.Common.{arith}
use Rattle.race_clock.proofs.channel.Channel.hand_to_send.Goals as goal

pub returns-in_default : goal.returns-in_default
returns-in_default g c = grind (arith, joined_nothing) steps 300000
