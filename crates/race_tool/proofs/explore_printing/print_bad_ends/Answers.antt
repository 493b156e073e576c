use Rattle.std.proofs.Common.{Ok, Err, subst}
use Rattle.race_records.{specs.Page.Printing, proofs.PageLemmas.{piece_behind, piece_breaks_off}}
use Rattle.race_explore.specs.declared.stuck.BadEnd.{BadEnd}
use Rattle.race_tool.specs.Explore.{bad_line}
use Rattle.race_tool.proofs.explore_printing.print_bad_ends.Goals as goal

pub loop-bad-preserved : goal.loop-bad-preserved
loop-bad-preserved g c =
    piece_behind (bad_line c.args.decls.now c.args.all) c.args.ends.now c.loop-bad.bad-index c.bad-item.result c.loop-bad-test.true c.loop-bad.invariant
    (subst (λ (x : BadEnd g.row.B.Denot). Printing g.W.Write.contents (Ok tt) c.loop-bad.sink c.print_bad.new.sink c.loop-bad.page c.print_bad.new.page
    (bad_line c.args.decls.now c.args.all x)) c.bad-item.is c.in_default.ensures)

pub returns-in-Err : goal.returns-in-Err
returns-in-Err g c =
    piece_breaks_off (bad_line c.args.decls.now c.args.all) c.args.ends.now c.loop-bad.bad-index c.bad-item.result c.loop-bad-test.true c.loop-bad.invariant
    (subst (λ (x : BadEnd g.row.B.Denot). Printing g.W.Write.contents (Err c.in-Err.fault) c.loop-bad.sink c.print_bad.new.sink c.loop-bad.page c.print_bad.new.page
    (bad_line c.args.decls.now c.args.all x)) c.bad-item.is c.in-Err.ensures)
