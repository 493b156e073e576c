use Rattle.std.proofs.Common.{take}
use Rattle.race_access.specs.Kept.{IsGreatestUnknown, note_found}
use Rattle.race_access.proofs.accesses.greatest_unknown.Given as goal

abbrev pub invariant-loop-access : goal.invariant-loop-access
invariant-loop-access g l = IsGreatestUnknown l.clock (take l.access-index l.accesses) (note_found l.greatest)
