use Rattle.std.proofs.Common.{◌≡◌, ◌++◌, replicate}
use Rattle.race_draw.proofs.fold.put_blanks.Given as goal

-- so many are put there
abbrev pub invariant-loop-done : goal.invariant-loop-done
invariant-loop-done g l = record {
  put : l.text.items ≡ l.initial.text.items ++ replicate l.done 32;
}
