use Rattle.std.proofs.Common.{Ok, take}
use Rattle.race_records.specs.Page.{Printing, joined}
use Rattle.race_records.proofs.page.Page.put_all.Given as goal

-- the parts before the index are printed
abbrev pub invariant-loop-part : goal.invariant-loop-part
invariant-loop-part g l = Printing g.W.Write.contents (Ok tt) l.initial.sink l.sink l.initial.self l.self (joined (take l.part-index l.parts))
