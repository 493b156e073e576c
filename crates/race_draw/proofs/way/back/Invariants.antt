use Rattle.std.proofs.Common.{List, ◌++◌}
use Rattle.race_edges.specs.declared.edge_list.Edge.{Edge}
use Rattle.race_verdict.specs.Traces.{capacities}
use Rattle.race_draw.specs.Layout.{IsWay}
use Rattle.race_draw.proofs.way.back.Given as goal

-- whatever leads to what the last edge leaves leads with these edges to the second access
abbrev pub invariant-loop : goal.invariant-loop
invariant-loop g l = record {
  leads : (rest : List Edge) → IsWay (capacities l.trace) l.trace.events l.at l.missing.from_who rest l.before l.who
      → IsWay (capacities l.trace) l.trace.events l.at l.missing.from_who (l.way.items ++ rest) l.missing.to l.missing.to_who;
}
