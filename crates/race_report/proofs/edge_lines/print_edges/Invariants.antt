use Rattle.std.{proofs.Common.{Ok, take}, specs.List.flat_map}
use Rattle.race_records.specs.Page.{Printing}
use Rattle.race_report.specs.Report.{edge_line}
use Rattle.race_report.proofs.edge_lines.print_edges.Given as goal

-- the edges before the index are printed
abbrev pub invariant-loop-edge : goal.invariant-loop-edge
invariant-loop-edge g l = Printing g.W.Write.contents (Ok tt) l.initial.sink l.sink l.initial.page l.page
    (flat_map (edge_line l.trace) (take l.edge-index l.edges))
