use Rattle.std.proofs.Common.{◌≡◌, ◌*◌, ◌≤◌, ◌++◌, drop}
use Rattle.race_draw.specs.Fold.{folded, line_start}
use Rattle.race_draw.proofs.fold.folded.Given as goal

-- with what follows it is the text folded
abbrev pub invariant-loop-index : goal.invariant-loop-index
invariant-loop-index g l = record {
  so_far : l.folded.items ++ folded l.spot (drop l.index l.text) ≡ folded line_start l.text;
  column : l.spot.column ≤ 2 * l.index;
  indent : l.spot.indent ≤ 2 * l.index;
}
