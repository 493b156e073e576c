use Rattle.std.{proofs.Common.{◌≡◌, ◌++◌, take}, specs.{List.flat_map, Option.option_to_list}}
use Rattle.race_draw.specs.Strokes.{stroke_of}
use Rattle.race_draw.proofs.strokes.strokes_at.Given as goal

-- those of the strands before the index
abbrev pub invariant-loop-strand : goal.invariant-loop-strand
invariant-loop-strand g l = record {
  put : l.strokes.items ≡ flat_map (λ s. option_to_list (stroke_of l.picture.columns l.at s)) (take l.strand-index l.strand-items);
}
