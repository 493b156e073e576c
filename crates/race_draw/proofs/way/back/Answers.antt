-- Each step back is tested, and so leads on to what the steps before lead to.
use Rattle.std.proofs.Common.{List, [], ◌∷◌, ◌++◌, inr, sym, subst}
use Rattle.race_edges.specs.declared.edge_list.Edge.{Edge}
use Rattle.race_verdict.specs.Traces.{capacities}
use Rattle.race_draw.{specs.Layout.IsWay, proofs.WaySteps.{edge_is, longer, ended}}
use Rattle.race_draw.proofs.way.back.Goals as goal

pub loop-preserved : goal.loop-preserved
loop-preserved g c =
    let trace = c.args.trace.now in
    let m = c.args.missing.now in
    let edge : Edge = c.in-Some.edge in
    let step = longer (capacities trace) trace.events c.args.at m.from_who c.loop.way.items c.loop.before c.loop.who m.to m.to_who c.loop.invariant.leads
    edge (edge_is (capacities trace) trace.events c.args.edges.now c.requires edge c.in-Some.ensures) c.if-edge-who.false c.if-edge-before.false in
    record {
      leads = λ rest more. subst (λ (l : List Edge). IsWay (capacities trace) trace.events c.args.at m.from_who (l ++ rest) m.to m.to_who)
          (sym c.in_ok-push.ensures.items) (step rest more);
    }

pub returns-then-edge-missing : goal.returns-then-edge-missing
returns-then-edge-missing g c =
    let trace = c.args.trace.now in
    let m = c.args.missing.now in
    let edge : Edge = c.in-Some.edge in
    let step = longer (capacities trace) trace.events c.args.at m.from_who c.loop.way.items c.loop.before c.loop.who m.to m.to_who c.loop.invariant.leads
    edge (edge_is (capacities trace) trace.events c.args.edges.now c.requires edge c.in-Some.ensures) c.if-edge-who.false c.if-edge-before.false in
    inr (subst (λ (l : List Edge). IsWay (capacities trace) trace.events c.args.at m.from_who l m.to m.to_who) (sym c.in_ok-push.ensures.items)
    (ended (capacities trace) trace.events c.args.at m.from_who (c.loop.way.items ++ edge ∷ []) edge.from edge.from_who m.to m.to_who
    step (sym c.if-edge-at.true) (sym c.if-edge-missing.true)))
