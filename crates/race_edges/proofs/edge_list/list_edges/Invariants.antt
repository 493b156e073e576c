use Rattle.race_edges.specs.EdgesSoFar.{AreEdgesBefore}
use Rattle.race_verdict.specs.Traces.{capacities}
use Rattle.race_edges.proofs.edge_list.list_edges.Given as goal

abbrev pub invariant-loop-from : goal.invariant-loop-from
invariant-loop-from g l = AreEdgesBefore l.from l.from (capacities l.trace) l.trace.events l.edges.items
