use Rattle.std.proofs.Common.{Ok, take}
use Rattle.race_records.specs.Page.{Printing}
use Rattle.race_text.specs.Writing.{declarations_text}
use Rattle.race_text.proofs.writing.print_declarations.Given as goal

-- the declarations before the index are printed
abbrev pub invariant-loop-index : goal.invariant-loop-index
invariant-loop-index g l = Printing g.W.Write.contents (Ok tt)
    l.initial.sink l.sink l.initial.page l.page (declarations_text (take l.index l.decls.declarations))
