use Rattle.std.proofs.Common.{[], codes}
use Rattle.race_records.proofs.PageLemmas.{breaks_off_before, prints_behind}
use Rattle.race_report.specs.Report.{counted_line}
use Rattle.race_tool.proofs.predict_printing.print_counts.Goals as goal

pub returns-in-Ok : goal.returns-in-Ok
returns-in-Ok g c = prints_behind c.in-Ok.ensures c.print_count.ensures

pub returns-in-Err : goal.returns-in-Err
returns-in-Err g c = breaks_off_before (counted_line (codes "predicted: ") c.args.count []) c.in-Err.ensures
