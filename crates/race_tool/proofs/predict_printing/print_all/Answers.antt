use Rattle.race_records.proofs.PageLemmas.{breaks_off_before, prints_behind}
use Rattle.race_tool.specs.Predict.{predictions_text}
use Rattle.race_tool.proofs.predict_printing.print_all.Goals as goal

pub returns-in-Ok : goal.returns-in-Ok
returns-in-Ok g c = prints_behind c.in-Ok.ensures c.print_predictions.ensures

pub returns-in-Err : goal.returns-in-Err
returns-in-Err g c = breaks_off_before (predictions_text c.args.trace.now c.args.races.now c.args.not_searched) c.in-Err.ensures
