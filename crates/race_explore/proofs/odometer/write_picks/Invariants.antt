use Rattle.std.proofs.Common.{◌≡◌, map, take}
use Rattle.race_explore.proofs.odometer.write_picks.Given as goal

-- the picks so far
abbrev pub invariant-loop-fork : goal.invariant-loop-fork
invariant-loop-fork g l = l.picks.items ≡ map (λ f. f.pick) (take l.fork-index l.forks)
