use Rattle.std.proofs.Common.{◌≡◌, drop}
use Rattle.race_draw.specs.Picture.{strands_behind}
use Rattle.race_draw.proofs.picture.put_strands.Given as goal

-- with what follows they are all
abbrev pub invariant-loop-edge : goal.invariant-loop-edge
invariant-loop-edge g l = record {
  so_far : strands_behind l.style l.strands.items (drop l.edge-index l.edges) ≡ strands_behind l.style l.initial.strands.items l.edges;
}
