use Rattle.std.proofs.Common.{◌≡◌}
use Rattle.std.specs.{Prelude.filter_map, List.range_with_len}
use Rattle.race_explore.specs.Standing.{waits_at}
use Rattle.race_explore.proofs.stuck.all_waiting.Given as goal

-- those before this number are noted
abbrev pub invariant-loop-who : goal.invariant-loop-who
invariant-loop-who g l = l.list.items ≡ filter_map (waits_at l.recording) (range_with_len 0 l.who)
