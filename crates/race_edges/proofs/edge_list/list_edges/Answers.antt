use Rattle.std.proofs.{lemmas.Grind.common_steps, Common.arith}
use Rattle.race_verdict.specs.Traces.{capacities}
use Rattle.race_edges.proofs.EdgeLemmas.{are_all}
use Rattle.race_edges.proofs.edge_list.list_edges.Goals as goal

pub returns : goal.returns
returns g c =
    are_all (capacities c.args.trace.now) c.args.trace.now.events c.loop-from.from c.loop-from.edges.items
    (omega (arith, c.len-from-end.ensures.len, c.loop-from-test.false, c.loop-from.auto.from-end)) c.loop-from.invariant

pub loop-from-preserved : goal.loop-from-preserved
loop-from-preserved g c = grind (arith, common_steps) steps 300000
