use Rattle.std.{proofs.Common.{◌≡◌, ◌++◌, take}, specs.List.flat_map}
use Rattle.race_draw.specs.{Picture.column_of, Rows.head_line}
use Rattle.race_draw.proofs.rows.put_heads.Given as goal

-- those before the index are put there
abbrev pub invariant-loop-goroutine : goal.invariant-loop-goroutine
invariant-loop-goroutine g l = record {
  put : l.out.items ≡ l.initial.out.items ++ flat_map (λ g. head_line l.trace (column_of l.columns g) g) (take l.goroutine-index l.columns);
}
