use Rattle.std.proofs.Common.{◌++◌, subst}
use Rattle.race_records.specs.{Declarations.DeclsState, Page.Printing}
use Rattle.race_records.proofs.PageLemmas.{breaks_off_before, prints_behind}
use Rattle.race_verdict.specs.Verdicts.{verdict_of}
use Rattle.race_report.specs.Report.{report}
use Rattle.race_tool.specs.Report.{end_line}
use Rattle.race_tool.proofs.race_printing.print_judged.Goals as goal

pub returns-in-Ok : goal.returns-in-Ok
returns-in-Ok g c =
    subst (λ (d : DeclsState). Printing g.W.Write.contents c.print_end.result c.args.sink.now c.print_end.new.sink c.args.page.now c.print_end.new.page
    (report c.args.trace.now (verdict_of c.args.verdict.now) ++ end_line d.declarations c.args.end))
    c.decls.ensures.decls (prints_behind c.in-Ok.ensures c.print_end.ensures)

pub returns-in-Err : goal.returns-in-Err
returns-in-Err g c = breaks_off_before (end_line c.args.trace.now.decls.declarations c.args.end) c.in-Err.ensures
