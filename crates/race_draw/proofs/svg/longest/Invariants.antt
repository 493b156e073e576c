use Rattle.std.proofs.Common.{◌≡◌, ◌≤◌, max, drop}
use Rattle.race_draw.specs.Svg.{longest}
use Rattle.race_draw.proofs.svg.longest.Given as goal

-- the longest line is among those before and what follows
abbrev pub invariant-loop-byte : goal.invariant-loop-byte
invariant-loop-byte l = record {
  whole : max l.most (longest l.column (drop l.byte-index l.text)) ≡ longest 0 l.text;
  column : l.column ≤ l.byte-index;
}
