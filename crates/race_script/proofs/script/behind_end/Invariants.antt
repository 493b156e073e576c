-- The function's end stands where it did, seen from here.
use Rattle.std.proofs.Common.{◌≡◌, ◌+◌, ◌≤◌, drop}
use Rattle.race_script.specs.{Bodies.steps_to_end, Program.asks_of}
use Rattle.race_script.proofs.script.behind_end.Given as goal

abbrev pub invariant-loop-at : goal.invariant-loop-at
invariant-loop-at g l = record {
  deep : l.depth ≤ l.at;
  all : l.at + steps_to_end l.depth (drop l.at (asks_of l.steps.items)) ≡ l.from + steps_to_end 0 (drop l.from (asks_of l.steps.items));
}
