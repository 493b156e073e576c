use Rattle.std.proofs.Common.{◌≡◌, Ok, take, codes}
use Rattle.race_records.specs.Page.{Printing}
use Rattle.race_tool.{specs.Explore.{listed, pick_text}, proofs.ListedLemmas.mark_at}
use Rattle.race_tool.proofs.explore_printing.print_all_picks.Given as goal

-- the picks before the index are printed
abbrev pub invariant-loop-pick : goal.invariant-loop-pick
invariant-loop-pick g l = record {
  printed : Printing g.W.Write.contents (Ok tt) l.initial.sink l.sink l.initial.page l.page
      (listed pick_text (codes "; with --picks ") (codes ",") (take l.pick-index l.picks));
  mark : l.mark ≡ mark_at (codes "; with --picks ") (codes ",") l.pick-index;
}
