-- The edges inside the event are those between its participants.
use Rattle.std.proofs.Common.{◌+◌, List, ◌∙◌, sym, ap, subst}
use Rattle.race_edges.specs.{declared.edge_list.Edge.Edge, EdgesSoFar.{AreEdgesBefore, with_edge, edge_inside}}
use Rattle.race_edges.proofs.EdgeLemmas.{as_told, none_inside, both_added, one_added}
use Rattle.race_model.specs.Synchronized.{joins}
use Rattle.race_verdict.specs.Traces.{capacities}
use Rattle.race_edges.proofs.edge_list.add_inside.Goals as goal

pub returns-in_default : goal.returns-in_default
returns-in_default g c =
    none_inside (capacities c.args.trace.now) c.args.trace.now.events c.args.at c.event-event.result.now c.event-event.ensures.event
    (sym c.partner.ensures ∙ c.in_default.is) c.args.edges.now.items c.requires.before

pub returns-in_ok-add_edge-2 : goal.returns-in_ok-add_edge-2
returns-in_ok-add_edge-2 g c =
    let caps = capacities c.args.trace.now in
    let events = c.args.trace.now.events in
    let e = c.event-event.result.now in
    let low = c.in_order-low.result.0 in
    let high = c.in_order-low.result.1 in
    let first = as_told (joins e.who e.op low high) c.joins.result c.inside.result (edge_inside c.args.at low high)
    c.args.edges.now.items c.add_edge.new.edges.items c.in_ok-add_edge.ensures c.joins.ensures c.inside.ensures in
    let second =
    as_told (joins e.who e.op high low) c.joins-then-low-high.result c.inside-then-low-high.result
    (edge_inside c.args.at high low) c.add_edge.new.edges.items c.add_edge-then-low-high.new.edges.items
    c.in_ok-add_edge-2.ensures c.joins-then-low-high.ensures c.inside-then-low-high.ensures in
    subst (λ (edges : List Edge). AreEdgesBefore c.args.at (c.args.at + 1) caps events edges)
    (sym (second ∙ ap (with_edge (joins e.who e.op high low) (edge_inside c.args.at high low)) first))
    (both_added caps events c.args.at e c.event-event.ensures.event c.in-Some.other (sym c.partner.ensures ∙ c.in-Some.is)
    low high c.in_order-low.ensures.pair c.args.edges.now.items c.requires.before c.if-low-high.true)

pub returns-else-low-high : goal.returns-else-low-high
returns-else-low-high g c =
    let caps = capacities c.args.trace.now in
    let events = c.args.trace.now.events in
    let e = c.event-event.result.now in
    let low = c.in_order-low.result.0 in
    let high = c.in_order-low.result.1 in
    let first = as_told (joins e.who e.op low high) c.joins.result c.inside.result (edge_inside c.args.at low high)
    c.args.edges.now.items c.add_edge.new.edges.items c.in_ok-add_edge.ensures c.joins.ensures c.inside.ensures in
    subst (λ (edges : List Edge). AreEdgesBefore c.args.at (c.args.at + 1) caps events edges) (sym first)
    (one_added caps events c.args.at e c.event-event.ensures.event c.in-Some.other (sym c.partner.ensures ∙ c.in-Some.is)
    low high c.in_order-low.ensures.pair c.args.edges.now.items c.requires.before c.in_order-low.ensures.order c.if-low-high.false)
