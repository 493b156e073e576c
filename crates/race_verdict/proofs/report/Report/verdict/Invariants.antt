use Rattle.std.proofs.Common.{◌≡◌, map, take}
use Rattle.race_verdict.specs.{Notes.race_noted, Races.race_of}
use Rattle.race_verdict.proofs.report.Report.verdict.Given as goal

abbrev pub invariant-loop-race : goal.invariant-loop-race
invariant-loop-race g l = map race_of l.races.items ≡ map race_noted (take l.race-index l.race-items)
