use Rattle.race_records.proofs.PageLemmas.{breaks_off_before, prints_behind}
use Rattle.std.proofs.Common.{◌-◌, ◌++◌}
use Rattle.race_tool.specs.Explore.{counts_line, skipped_line}
use Rattle.race_tool.proofs.explore_printing.print_totals.Goals as goal

pub returns-in-Ok : goal.returns-in-Ok
returns-in-Ok g c = prints_behind c.in-Ok.ensures c.print_skipped_and_counts.ensures

pub returns-in-Err : goal.returns-in-Err
returns-in-Err g c =
    let e = c.args.explored.now in
    breaks_off_before (skipped_line (e.made - e.runs) ++ counts_line e) c.in-Err.ensures
