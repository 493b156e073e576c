use Rattle.std.{proofs.{Common.{◌≡◌, Ok, List, take, length, subst}, lemmas.List.take_all}, specs.List.flat_map}
use Rattle.race_records.{specs.Page.Printing, proofs.PageLemmas.{piece_breaks_off, breaks_off_before, prints_behind}}
use Rattle.race_verdict.specs.declared.report.ReportedRace.{ReportedRace}
use Rattle.race_report.specs.{Report.races_line, Noted.race_noted_line}
use Rattle.race_report.proofs.noted.print_noted_races.Goals as goal

pub returns-in-Err : goal.returns-in-Err
returns-in-Err g c =
    breaks_off_before (races_line (length c.args.races.now)) (piece_breaks_off (race_noted_line c.args.decls.now)
    c.args.races.now c.loop-race.race-index _ c.loop-race-test.true c.loop-race.invariant c.in-Err.ensures)

pub returns : goal.returns
returns g c =
    let races = c.args.races.now in
    let all : take c.loop-race.race-index races ≡ races = take_all c.loop-race.race-index races c.loop-race-test.false in
    let before = subst (λ (l : List ReportedRace). Printing g.W.Write.contents (Ok tt) c.args.sink.now c.loop-race.sink c.args.page.now c.loop-race.page
    (flat_map (race_noted_line c.args.decls.now) l)) all c.loop-race.invariant in
    prints_behind before c.print_race_count.ensures

pub print_noted_race-requires : goal.print_noted_race-requires
print_noted_race-requires g c = c.requires c.loop-race.race-index _ c.loop-race-test.true
