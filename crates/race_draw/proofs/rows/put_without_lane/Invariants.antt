use Rattle.std.{proofs.Common.{◌≡◌, ◌++◌, take}, specs.List.flat_map}
use Rattle.race_draw.specs.Rows.{told_if}
use Rattle.race_draw.proofs.rows.put_without_lane.Given as goal

-- those before the index are put there
abbrev pub invariant-loop-strand : goal.invariant-loop-strand
invariant-loop-strand g l = record {
  put : l.out.items ≡ l.initial.out.items ++ flat_map (told_if l.at) (take l.strand-index l.strands);
}
