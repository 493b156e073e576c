use Rattle.std.proofs.Common.{◌≡◌, false}
use Rattle.race_explore.specs.Walk.{IsWalked}
use Rattle.race_explore.proofs.walk.explore.Given as goal

-- so many runs were made
abbrev pub invariant-loop-run : goal.invariant-loop-run
invariant-loop-run g l = record {
  walked : IsWalked l.program l.limit l.orders l.picks.items l.explored;
  made : l.explored.made ≡ l._run;
  whole : l.explored.whole ≡ false;
}
