use Rattle.race_exchange.specs.Independent.{are_turned}
use Rattle.race_exchange.proofs.FirstTurned.{NoneBefore}
use Rattle.race_exchange.proofs.independent.turned_at.Given as goal

-- those before these two don't have to be turned
abbrev pub invariant-loop-at : goal.invariant-loop-at
invariant-loop-at l = NoneBefore are_turned l.events l.at
