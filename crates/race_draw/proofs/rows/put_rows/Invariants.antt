use Rattle.std.{proofs.Common.{◌≡◌, ◌++◌, take}, specs.List.flat_map}
use Rattle.race_draw.specs.Rows.{row_text}
use Rattle.race_draw.proofs.rows.put_rows.Given as goal

-- those before the index are put there
abbrev pub invariant-loop-at : goal.invariant-loop-at
invariant-loop-at g l = record {
  put : l.out.items ≡ l.initial.out.items ++ flat_map (row_text l.trace l.picture) (take l.at-index l.rows);
}
