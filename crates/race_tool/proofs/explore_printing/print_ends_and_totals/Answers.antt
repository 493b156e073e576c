use Rattle.std.proofs.Common.{◌++◌, Err, List, subst}
use Rattle.std.specs.List.{flat_map}
use Rattle.race_records.{specs.Page.Printing, proofs.PageLemmas.{breaks_off_before, prints_behind}}
use Rattle.race_explore.specs.declared.stuck.BadEnd.{BadEnd}
use Rattle.race_tool.specs.Explore.{bad_line, totals_text}
use Rattle.race_tool.proofs.explore_printing.print_ends_and_totals.Goals as goal

pub returns-in-Ok : goal.returns-in-Ok
returns-in-Ok g c =
    let e = c.args.explored.now in
    subst (λ (ends : List (BadEnd g.row.B.Denot)). Printing g.W.Write.contents c.print_totals.result c.args.sink.now c.print_totals.new.sink
    c.args.page.now c.print_totals.new.page (flat_map (bad_line c.args.decls.now e.runs) ends ++ totals_text e))
    c.as_slice.ensures.value (prints_behind c.in-Ok.ensures c.print_totals.ensures)

pub returns-in-Err : goal.returns-in-Err
returns-in-Err g c =
    let e = c.args.explored.now in
    subst (λ (ends : List (BadEnd g.row.B.Denot)). Printing g.W.Write.contents (Err c.in-Err.fault) c.args.sink.now c.print_bad_ends.new.sink
    c.args.page.now c.print_bad_ends.new.page (flat_map (bad_line c.args.decls.now e.runs) ends ++ totals_text e))
    c.as_slice.ensures.value (breaks_off_before (totals_text e) c.in-Err.ensures)
