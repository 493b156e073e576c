use Rattle.std.{proofs.Common.{◌≡◌, ◌++◌}, specs.List.{flat_map, range_with_len}}
use Rattle.race_draw.specs.Rows.{track_text}
use Rattle.race_draw.proofs.rows.put_cells.Given as goal

-- the cells before the track are put there
abbrev pub invariant-loop-track : goal.invariant-loop-track
invariant-loop-track g l = record {
  put : l.out.items ≡ l.initial.out.items ++ flat_map (track_text l.picture l.strokes l.mark) (range_with_len 0 l.track);
}
