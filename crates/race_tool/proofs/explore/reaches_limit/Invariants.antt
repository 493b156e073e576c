use Rattle.std.{proofs.Common.{◌≡◌, false, take}}
use Rattle.race_tool.specs.Explore.{reaches_limit}
use Rattle.race_tool.proofs.explore.reaches_limit.Given as goal

-- none of the ends before the index is the limit
abbrev pub invariant-loop-bad : goal.invariant-loop-bad
invariant-loop-bad g l = reaches_limit (take l.bad-index l.ends) ≡ false
