use Rattle.std.proofs.Common.{ℕ, ◌++◌, Err, subst}
use Rattle.race_records.{specs.Page.Printing, proofs.PageLemmas.{breaks_off_before, prints_behind}}
use Rattle.race_tool.specs.Explore.{counts_line, skipped_line}
use Rattle.race_tool.proofs.explore_printing.print_skipped_and_counts.Goals as goal

pub returns-in-Ok : goal.returns-in-Ok
returns-in-Ok g c =
    let e = c.args.explored.now in
    subst (λ (n : ℕ). Printing g.W.Write.contents c.print_counts.result c.args.sink.now c.print_counts.new.sink c.args.page.now c.print_counts.new.page
    (skipped_line n ++ counts_line e)) c.skipped.ensures (prints_behind c.in-Ok.ensures c.print_counts.ensures)

pub returns-in-Err : goal.returns-in-Err
returns-in-Err g c =
    let e = c.args.explored.now in
    subst (λ (n : ℕ). Printing g.W.Write.contents (Err c.in-Err.fault) c.args.sink.now c.print_skipped.new.sink c.args.page.now c.print_skipped.new.page
    (skipped_line n ++ counts_line e)) c.skipped.ensures (breaks_off_before (counts_line e) c.in-Err.ensures)
