use Rattle.std.{proofs.Common.{Ok, take}, specs.List.flat_map}
use Rattle.race_records.specs.Page.{Printing}
use Rattle.race_report.specs.Witness.{access_line}
use Rattle.race_report.proofs.witness_lines.print_witness.Given as goal

-- the accesses before the index are printed
abbrev pub invariant-loop-index : goal.invariant-loop-index
invariant-loop-index g l = Printing g.W.Write.contents (Ok tt) l.initial.sink l.sink l.initial.page l.page
    (flat_map (access_line l.trace) (take l.index-index l.order))
