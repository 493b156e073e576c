use Rattle.std.proofs.Common.{◌≡◌, ◌≤◌, take}
use Rattle.race_model.specs.Events.{count}
use Rattle.race_edges.specs.Numbers.{counts}
use Rattle.race_edges.proofs.numbers.number_at.Given as goal

-- how many there are so far
abbrev pub invariant-loop-event : goal.invariant-loop-event
invariant-loop-event l = record {
  number : l.number ≡ count (counts l.op) (take l.event-index l.event-items);
  few : l.number ≤ l.event-index;
}
