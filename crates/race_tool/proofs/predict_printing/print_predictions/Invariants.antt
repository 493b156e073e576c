use Rattle.std.{proofs.Common.{Ok, take}, specs.List.flat_map}
use Rattle.race_records.specs.Page.{Printing}
use Rattle.race_verdict.specs.Races.{race_of}
use Rattle.race_tool.specs.Predict.{predicted_line}
use Rattle.race_tool.proofs.predict_printing.print_predictions.Given as goal

-- the races before the index are printed
abbrev pub invariant-loop-race : goal.invariant-loop-race
invariant-loop-race g l = Printing g.W.Write.contents (Ok tt) l.initial.sink l.sink l.initial.page l.page
    (flat_map (λ race. predicted_line l.trace (race_of race)) (take l.race-index l.races))
