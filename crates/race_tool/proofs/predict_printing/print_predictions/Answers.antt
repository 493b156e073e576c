use Rattle.std.proofs.Common.{◌≡◌, List, Ok, length, take, subst}
use Rattle.std.specs.List.{flat_map}
use Rattle.race_records.{specs.Page.Printing, proofs.PageLemmas.{breaks_off_before, piece_breaks_off, prints_behind}}
use Rattle.race_verdict.specs.{declared.races.Race.Race, Races.race_of}
use Rattle.race_report.proofs.ReportLemmas.{take_all}
use Rattle.race_tool.specs.Predict.{counts_text, predicted_line}
use Rattle.race_tool.proofs.predict_printing.print_predictions.Goals as goal

pub returns-in-Err : goal.returns-in-Err
returns-in-Err g c =
    let races = c.args.races.now in
    breaks_off_before (counts_text c.args.not_searched (length races))
    (piece_breaks_off (λ (race : Race). predicted_line c.args.trace.now (race_of race)) races c.loop-race.race-index _ c.loop-race-test.true
    c.loop-race.invariant c.in-Err.ensures)

pub returns : goal.returns
returns g c =
    let all : take c.loop-race.race-index c.args.races.now ≡ c.args.races.now =
    take_all c.args.races.now c.loop-race.race-index c.loop-race-test.false in
    prints_behind (subst (λ (races : List Race). Printing g.W.Write.contents (Ok tt) c.args.sink.now c.loop-race.sink c.args.page.now c.loop-race.page
    (flat_map (λ (race : Race). predicted_line c.args.trace.now (race_of race)) races)) all c.loop-race.invariant) c.print_counts.ensures
