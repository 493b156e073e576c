use Rattle.std.{proofs.{Common.{◌≡◌, Ok, List, take, length, subst}, lemmas.List.take_all}, specs.List.flat_map}
use Rattle.race_records.{specs.Page.Printing, proofs.PageLemmas.{piece_breaks_off, breaks_off_before, prints_behind}}
use Rattle.race_edges.specs.declared.edge_list.Edge.{Edge}
use Rattle.race_report.specs.Report.{edge_line, edges_line}
use Rattle.race_report.proofs.edge_lines.print_edges.Goals as goal

pub returns-in-Err : goal.returns-in-Err
returns-in-Err g c =
    breaks_off_before (edges_line (length c.args.edges.now)) (piece_breaks_off (edge_line c.args.trace.now)
    c.args.edges.now c.loop-edge.edge-index _ c.loop-edge-test.true c.loop-edge.invariant c.in-Err.ensures)

pub returns : goal.returns
returns g c =
    let edges = c.args.edges.now in
    let all : take c.loop-edge.edge-index edges ≡ edges = take_all c.loop-edge.edge-index edges c.loop-edge-test.false in
    let before = subst (λ (l : List Edge). Printing g.W.Write.contents (Ok tt) c.args.sink.now c.loop-edge.sink c.args.page.now c.loop-edge.page
    (flat_map (edge_line c.args.trace.now) l)) all c.loop-edge.invariant in
    prints_behind before c.print_count.ensures

pub print_edge-requires : goal.print_edge-requires
print_edge-requires g c = c.requires c.loop-edge.edge-index _ c.loop-edge-test.true
