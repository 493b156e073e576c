use Rattle.std.proofs.Common.{◌++◌, Err, List, subst}
use Rattle.std.specs.List.{flat_map}
use Rattle.race_records.{specs.Page.Printing, proofs.PageLemmas.{breaks_off_before, prints_behind}}
use Rattle.race_explore.specs.declared.explored.RacyVariable.{RacyVariable}
use Rattle.race_tool.specs.Explore.{bad_line, racy_line, totals_text}
use Rattle.race_tool.proofs.explore_printing.print_explored.Goals as goal

pub returns-in-Ok : goal.returns-in-Ok
returns-in-Ok g c =
    let e = c.args.explored.now in
    let decls = c.args.decls.now in
    subst (λ (racy : List (RacyVariable g.row.B.Denot)). Printing g.W.Write.contents c.print_ends_and_totals.result c.args.sink.now
    c.print_ends_and_totals.new.sink c.args.page.now c.print_ends_and_totals.new.page
    (flat_map (racy_line decls e.runs) racy ++ (flat_map (bad_line decls e.runs) e.bad.items ++ totals_text e)))
    c.as_slice.ensures.value (prints_behind c.in-Ok.ensures c.print_ends_and_totals.ensures)

pub returns-in-Err : goal.returns-in-Err
returns-in-Err g c =
    let e = c.args.explored.now in
    let decls = c.args.decls.now in
    let rest = flat_map (bad_line decls e.runs) e.bad.items ++ totals_text e in
    subst (λ (racy : List (RacyVariable g.row.B.Denot)). Printing g.W.Write.contents (Err c.in-Err.fault) c.args.sink.now
    c.print_racy_variables.new.sink c.args.page.now c.print_racy_variables.new.page (flat_map (racy_line decls e.runs) racy ++ rest))
    c.as_slice.ensures.value (breaks_off_before rest c.in-Err.ensures)
