use Rattle.std.proofs.Common.{◌≡◌, All, map}
use Rattle.race_verdict.specs.{Notes.race_noted, Races.{race_of, races_of}}
use Rattle.race_shards.specs.Telling.{told_below, IsNotedBy}
use Rattle.race_shards.proofs.races.noted_races.Given as goal

abbrev pub invariant-loop-var : goal.invariant-loop-var
invariant-loop-var g l = record {
  races : map race_noted l.races.items ≡ map race_of (races_of (told_below l.shards l.var));
  noted : All (IsNotedBy l.shards l.vars) l.races.items;
}
