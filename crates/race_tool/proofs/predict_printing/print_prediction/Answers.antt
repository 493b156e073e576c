use Rattle.race_records.proofs.PageLemmas.{breaks_off_before, prints_behind}
use Rattle.race_report.specs.Report.{race_line}
use Rattle.race_verdict.specs.Races.{race_of}
use Rattle.race_tool.proofs.predict_printing.print_prediction.Goals as goal

pub returns-in-Ok : goal.returns-in-Ok
returns-in-Ok g c = prints_behind c.in-Ok.ensures c.print_race.ensures

pub returns-in-Err : goal.returns-in-Err
returns-in-Err g c = breaks_off_before (race_line c.args.trace.now (race_of c.args.race)) c.in-Err.ensures
