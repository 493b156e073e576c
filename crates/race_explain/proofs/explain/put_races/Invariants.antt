use Rattle.std.proofs.Common.{take}
use Rattle.race_explain.specs.Explained.{IsPutAfter, AreRacesShown}
use Rattle.race_explain.proofs.explain.put_races.Given as goal

-- the races before the index are shown
abbrev pub invariant-loop-race : goal.invariant-loop-race
invariant-loop-race g l = record {
  put : IsPutAfter (AreRacesShown l.trace (take l.race-index l.races)) l.initial.out.items l.out.items;
}
