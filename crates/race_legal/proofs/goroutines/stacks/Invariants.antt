use Rattle.std.proofs.Common.{◌≡◌, [], replicate}
use Rattle.race_legal.proofs.goroutines.stacks.Given as goal

abbrev pub invariant-loop : goal.invariant-loop
invariant-loop g l = l.stacks.items ≡ replicate l.counter []
