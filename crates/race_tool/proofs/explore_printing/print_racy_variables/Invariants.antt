use Rattle.std.{proofs.Common.{Ok, take}, specs.List.flat_map}
use Rattle.race_records.specs.Page.{Printing}
use Rattle.race_tool.specs.Explore.{racy_line}
use Rattle.race_tool.proofs.explore_printing.print_racy_variables.Given as goal

-- the lines before the index are printed
abbrev pub invariant-loop-variable : goal.invariant-loop-variable
invariant-loop-variable g l = Printing g.W.Write.contents (Ok tt) l.initial.sink l.sink l.initial.page l.page
    (flat_map (racy_line l.decls l.all) (take l.variable-index l.racy))
