-- The lines so far were read ahead.
use Rattle.std.proofs.Common.{◌-◌, All, length}
use Rattle.race_text.specs.Ahead.{IsAhead}
use Rattle.race_text.proofs.ahead.push_lines.Given as goal

abbrev pub invariant-loop-at : goal.invariant-loop-at
invariant-loop-at g l = All (IsAhead l.decls.declarations l.decls.places l.bytes) l.lines.items

abbrev pub decreases-loop-at : goal.decreases-loop-at
decreases-loop-at g l = length l.bytes - l.at
