use Rattle.std.proofs.Common.{◌≡◌, ◌+◌, ◌<◌, ◌^◌, All, length}
use Rattle.race_explore.specs.Lists.{next_picks}
use Rattle.race_explore.proofs.odometer.advance.Given as goal

-- those that were used up decide nothing
abbrev pub invariant-loop-last : goal.invariant-loop-last
invariant-loop-last g l = record {
  same : next_picks l.forks.items ≡ next_picks l.fn.forks.items;
  few : All (λ f. f.pick + 1 < 2 ^ 64) l.forks.items;
}

abbrev pub decreases-loop-last : goal.decreases-loop-last
decreases-loop-last g l = length l.forks.items
