use Rattle.std.proofs.Common.{◌≡◌, false, take}
use Rattle.race_text.specs.Words.{has_bad_byte}
use Rattle.race_explain.proofs.word.bad_column.Given as goal

abbrev pub invariant-loop-column : goal.invariant-loop-column
invariant-loop-column l = has_bad_byte (take l.column l.line) ≡ false
