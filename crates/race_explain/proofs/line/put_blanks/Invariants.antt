use Rattle.std.proofs.Common.{◌≡◌, ◌++◌, replicate}
use Rattle.race_explain.proofs.line.put_blanks.Given as goal

abbrev pub invariant-loop : goal.invariant-loop
invariant-loop g l = l.out.items ≡ l.initial.out.items ++ replicate l.counter 32
