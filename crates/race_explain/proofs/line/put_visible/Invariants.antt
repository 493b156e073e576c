use Rattle.std.proofs.Common.{◌≡◌, ◌++◌, map, take}
use Rattle.race_explain.specs.Marked.{visible}
use Rattle.race_explain.proofs.line.put_visible.Given as goal

-- the bytes before the index are put
abbrev pub invariant-loop-byte : goal.invariant-loop-byte
invariant-loop-byte g l = l.out.items ≡ l.initial.out.items ++ map visible (take l.byte-index l.bytes)
