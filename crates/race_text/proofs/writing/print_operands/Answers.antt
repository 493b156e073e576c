use Rattle.std.proofs.{lemmas.Grind.common_steps, Common.{Err, subst, arith}}
use Rattle.race_records.{specs.{declared.operands.Operand.Operand, Page.Printing}, proofs.PageLemmas.piece_breaks_off}
use Rattle.race_text.specs.Writing.{behind_space}
use Rattle.race_text.proofs.writing.print_operands.Goals as goal

pub returns-in-Err : goal.returns-in-Err
returns-in-Err g c = piece_breaks_off (behind_space c.args.decls.now.declarations) c.args.operands.now
    c.loop-operand.operand-index c.operand-item.result c.loop-operand-test.true c.loop-operand.invariant
    (subst (λ (operand : Operand). Printing g.W.Write.contents (Err c.in-Err.fault) c.loop-operand.sink c.print_operand.new.sink
    c.loop-operand.page c.print_operand.new.page (behind_space c.args.decls.now.declarations operand)) c.operand-item.is c.in-Err.ensures)

pub print_operand-requires : goal.print_operand-requires
print_operand-requires c = grind (arith, common_steps) steps 300000

pub returns : goal.returns
returns c = grind (arith, common_steps) steps 300000
