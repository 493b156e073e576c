use Rattle.std.proofs.Common.{Ok, take}
use Rattle.race_records.specs.Page.{Printing}
use Rattle.race_text.specs.Writing.{operands_text}
use Rattle.race_text.proofs.writing.print_operands.Given as goal

-- the operands before the index are printed
abbrev pub invariant-loop-operand : goal.invariant-loop-operand
invariant-loop-operand g l = Printing g.W.Write.contents (Ok tt) l.initial.sink l.sink l.initial.page l.page
    (operands_text l.decls.declarations (take l.operand-index l.operands))
