use Rattle.std.{proofs.Common.◌≡◌, specs.List.range_with_len}
use Rattle.race_draw.proofs.clean.all_rows.Given as goal

-- the events before this one are there
abbrev pub invariant-loop-event : goal.invariant-loop-event
invariant-loop-event g l = record {
  so_far : l.rows.items ≡ range_with_len 0 l.event;
}
