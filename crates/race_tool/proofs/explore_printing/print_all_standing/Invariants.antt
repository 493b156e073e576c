use Rattle.std.proofs.Common.{◌≡◌, Ok, take, codes}
use Rattle.race_records.specs.Page.{Printing}
use Rattle.race_tool.{specs.Explore.{listed, standing_text}, proofs.ListedLemmas.mark_at}
use Rattle.race_tool.proofs.explore_printing.print_all_standing.Given as goal

-- those before the index are printed
abbrev pub invariant-loop-one : goal.invariant-loop-one
invariant-loop-one g l = record {
  printed : Printing g.W.Write.contents (Ok tt) l.initial.sink l.sink l.initial.page l.page
      (listed (standing_text l.decls) (codes ": ") (codes ", ") (take l.one-index l.standing));
  mark : l.mark ≡ mark_at (codes ": ") (codes ", ") l.one-index;
}
