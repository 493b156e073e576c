use Rattle.std.{proofs.Common.{Ok, take}, specs.List.flat_map}
use Rattle.race_records.specs.Page.{Printing}
use Rattle.race_tool.specs.Explore.{bad_line}
use Rattle.race_tool.proofs.explore_printing.print_bad_ends.Given as goal

-- the lines before the index are printed
abbrev pub invariant-loop-bad : goal.invariant-loop-bad
invariant-loop-bad g l = Printing g.W.Write.contents (Ok tt) l.initial.sink l.sink l.initial.page l.page
    (flat_map (bad_line l.decls l.all) (take l.bad-index l.ends))
