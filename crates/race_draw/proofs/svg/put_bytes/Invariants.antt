use Rattle.std.{proofs.Common.{◌≡◌, ◌++◌, take}, specs.List.flat_map}
use Rattle.race_draw.specs.Svg.{in_svg}
use Rattle.race_draw.proofs.svg.put_bytes.Given as goal

-- those before the index are put there
abbrev pub invariant-loop-byte : goal.invariant-loop-byte
invariant-loop-byte g l = record {
  put : l.out.items ≡ l.initial.out.items ++ flat_map in_svg (take l.byte-index l.text);
}
