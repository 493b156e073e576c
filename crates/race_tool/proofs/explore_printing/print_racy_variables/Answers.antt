use Rattle.std.proofs.Common.{Ok, Err, subst}
use Rattle.race_records.{specs.Page.Printing, proofs.PageLemmas.{piece_behind, piece_breaks_off}}
use Rattle.race_explore.specs.declared.explored.RacyVariable.{RacyVariable}
use Rattle.race_tool.specs.Explore.{racy_line}
use Rattle.race_tool.proofs.explore_printing.print_racy_variables.Goals as goal

pub loop-variable-preserved : goal.loop-variable-preserved
loop-variable-preserved g c =
    piece_behind (racy_line c.args.decls.now c.args.all) c.args.racy.now c.loop-variable.variable-index c.variable-item.result c.loop-variable-test.true
    c.loop-variable.invariant
    (subst (λ (x : RacyVariable g.row.B.Denot). Printing g.W.Write.contents (Ok tt) c.loop-variable.sink c.print_racy.new.sink c.loop-variable.page
    c.print_racy.new.page
    (racy_line c.args.decls.now c.args.all x)) c.variable-item.is c.in_default.ensures)

pub returns-in-Err : goal.returns-in-Err
returns-in-Err g c =
    piece_breaks_off (racy_line c.args.decls.now c.args.all) c.args.racy.now c.loop-variable.variable-index c.variable-item.result c.loop-variable-test.true
    c.loop-variable.invariant
    (subst (λ (x : RacyVariable g.row.B.Denot). Printing g.W.Write.contents (Err c.in-Err.fault) c.loop-variable.sink c.print_racy.new.sink c.loop-variable.page
    c.print_racy.new.page
    (racy_line c.args.decls.now c.args.all x)) c.variable-item.is c.in-Err.ensures)
