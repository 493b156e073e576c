use Rattle.std.proofs.Common.{◌+◌, List, refl, sym, subst, arith}
use Rattle.race_edges.specs.{declared.edge_list.Edge.Edge, Synchronized.source_at, EdgesSoFar.AreEdgesBefore}
use Rattle.race_edges.proofs.EdgeLemmas.{as_told, later_added, event_done}
use Rattle.race_verdict.specs.Traces.{capacities}
use Rattle.race_edges.proofs.edge_list.add_later.Goals as goal

pub loop-to-preserved : goal.loop-to-preserved
loop-to-preserved g c =
    let caps = capacities c.args.trace.now in
    let events = c.args.trace.now.events in
    let s = c.event.result.now in
    let e = c.event-in-loop-to.result.now in
    let edge : Edge = record { from = c.args.from; from_who = s.who; to = c.loop-to.to; to_who = e.who } in
    subst (λ (edges : List Edge). AreEdgesBefore c.args.from (c.loop-to.to + 1) caps events edges)
    (sym (as_told (source_at caps events c.args.from c.loop-to.to)
    c.is_source.result edge edge c.loop-to.edges.items c.add_edge.new.edges.items c.in_ok-add_edge.ensures c.is_source.ensures refl))
    (later_added caps events c.args.from c.loop-to.to s e (omega (arith, c.loop-to.auto.to))
    c.event.ensures.event c.event-in-loop-to.ensures.event c.loop-to.edges.items c.loop-to.invariant)

pub returns : goal.returns
returns g c =
    event_done (capacities c.args.trace.now) c.args.trace.now.events c.args.from c.loop-to.to c.loop-to.edges.items
    (omega (arith, c.len-events.ensures.len, c.loop-to-test.false, c.loop-to.auto.to-end)) c.loop-to.invariant
