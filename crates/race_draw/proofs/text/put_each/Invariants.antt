use Rattle.std.{proofs.Common.{◌≡◌, ◌++◌, take}, specs.List.flat_map}
use Rattle.race_draw.specs.Text.{drawing_text}
use Rattle.race_draw.proofs.text.put_each.Given as goal

-- those before the index are put there
abbrev pub invariant-loop-layout : goal.invariant-loop-layout
invariant-loop-layout g l = record {
  put : l.out.items ≡ l.initial.out.items ++ flat_map (drawing_text l.trace) (take l.layout-index l.layouts);
}
