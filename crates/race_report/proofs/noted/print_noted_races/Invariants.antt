use Rattle.std.{proofs.Common.{Ok, take}, specs.List.flat_map}
use Rattle.race_records.specs.Page.{Printing}
use Rattle.race_report.specs.Noted.{race_noted_line}
use Rattle.race_report.proofs.noted.print_noted_races.Given as goal

-- the races before the index are printed
abbrev pub invariant-loop-race : goal.invariant-loop-race
invariant-loop-race g l = Printing g.W.Write.contents (Ok tt) l.initial.sink l.sink l.initial.page l.page
    (flat_map (race_noted_line l.decls) (take l.race-index l.races))
