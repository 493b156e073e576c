use Rattle.std.{proofs.{Common.{◌≡◌, Ok, ℕ, List, take, length, subst}, lemmas.List.take_all}, specs.List.flat_map}
use Rattle.race_records.{specs.Page.Printing, proofs.PageLemmas.{piece_breaks_off, breaks_off_before, prints_behind}}
use Rattle.race_report.specs.Witness.{access_line, witness_line}
use Rattle.race_report.proofs.witness_lines.print_witness.Goals as goal

pub returns-in-Err : goal.returns-in-Err
returns-in-Err g c =
    breaks_off_before (witness_line (length c.args.order.now)) (piece_breaks_off (access_line c.args.trace.now)
    c.args.order.now c.loop-index.index-index _ c.loop-index-test.true c.loop-index.invariant c.in-Err.ensures)

pub returns : goal.returns
returns g c =
    let order = c.args.order.now in
    let all : take c.loop-index.index-index order ≡ order = take_all c.loop-index.index-index order c.loop-index-test.false in
    let before = subst (λ (l : List ℕ). Printing g.W.Write.contents (Ok tt) c.args.sink.now c.loop-index.sink c.args.page.now c.loop-index.page
    (flat_map (access_line c.args.trace.now) l)) all c.loop-index.invariant in
    prints_behind before c.print_count.ensures

pub print_access-requires : goal.print_access-requires
print_access-requires g c = c.requires c.loop-index.index-index _ c.loop-index-test.true
