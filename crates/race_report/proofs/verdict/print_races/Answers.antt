use Rattle.std.proofs.Common.{All, ◌≡◌, ℕ, ◌≤◌, ◌++◌, Ok, Err, List, take, length, sym, subst, ◌∙◌, ap}
use Rattle.std.specs.List.{flat_map}
use Rattle.race_records.{specs.Page.Printing, proofs.PageLemmas.{piece_breaks_off, breaks_off_before, prints_behind}}
use Rattle.race_verdict.specs.{declared.races.Race.Race, Races.race_of}
use Rattle.race_report.specs.{Printable.IsOf, Report.{race_line, races_line}}
use Rattle.race_report.proofs.ReportLemmas.{races_text_is, take_all}
use Rattle.race_report.proofs.verdict.print_races.Goals as goal

pub returns-in-Err : goal.returns-in-Err
returns-in-Err g c =
    let races = c.args.races.now in
    let items = c.as_slice-race-items.result.now in
    let piece = λ (r : Race). race_line c.args.trace.now (race_of r) in
    let i = c.loop-race.race-index in
    let before = subst (λ (l : List Race). Printing g.W.Write.contents (Ok tt) c.args.sink.now c.loop-race.sink c.args.page.now c.loop-race.page
    (flat_map piece (take i l))) (sym c.as_slice-race-items.ensures) c.loop-race.invariant in
    let broke = piece_breaks_off piece items i _ c.loop-race-test.true before c.in-Err.ensures in
    subst (λ (l : List ℕ). Printing g.W.Write.contents (Err c.in-Err.fault) c.args.sink.now c.print_race.new.sink c.args.page.now c.print_race.new.page l)
    (ap (λ (l : List Race). flat_map piece l ++ races_line (length races)) c.as_slice-race-items.ensures
    ∙ sym (races_text_is c.args.trace.now races)) (breaks_off_before (races_line (length races)) broke)

pub returns : goal.returns
returns g c =
    let races = c.args.races.now in
    let piece = λ (r : Race). race_line c.args.trace.now (race_of r) in
    let all : take c.loop-race.race-index races ≡ races = take_all races c.loop-race.race-index
    (subst (λ (l : List Race). length l ≤ c.loop-race.race-index) c.as_slice-race-items.ensures c.loop-race-test.false) in
    let before = subst (λ (l : List Race). Printing g.W.Write.contents (Ok tt)
    c.args.sink.now c.loop-race.sink c.args.page.now c.loop-race.page (flat_map piece l)) all c.loop-race.invariant in
    let count : length c.as_slice.result.now ≡ length races = ap length c.as_slice.ensures in
    subst (λ (l : List ℕ). Printing g.W.Write.contents c.print_race_count.result
    c.args.sink.now c.print_race_count.new.sink c.args.page.now c.print_race_count.new.page l)
    ((λ i. flat_map piece races ++ races_line (count i)) ∙ sym (races_text_is c.args.trace.now races)) (prints_behind before c.print_race_count.ensures)

pub print_race-requires : goal.print_race-requires
print_race-requires g c =
    subst (λ (l : List Race). All (λ (r : Race). IsOf c.args.trace.now (race_of r)) l) (sym c.as_slice-race-items.ensures) c.requires
    c.loop-race.race-index _ c.loop-race-test.true
