use Rattle.race_edges.specs.EdgesSoFar.{AreEdgesBefore}
use Rattle.race_verdict.specs.Traces.{capacities}
use Rattle.race_edges.proofs.edge_list.add_later.Given as goal

abbrev pub invariant-loop-to : goal.invariant-loop-to
invariant-loop-to g l = AreEdgesBefore l.from l.to (capacities l.trace) l.trace.events l.edges.items
