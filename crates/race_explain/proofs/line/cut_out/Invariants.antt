use Rattle.std.proofs.Common.{◌≡◌, drop}
use Rattle.race_text.specs.Words.{parts_of}
use Rattle.race_explain.proofs.line.cut_out.Given as goal

-- what is left has the lines from this one on
abbrev pub invariant-loop : goal.invariant-loop
invariant-loop l = drop l.counter (parts_of l.bytes) ≡ parts_of l.left
