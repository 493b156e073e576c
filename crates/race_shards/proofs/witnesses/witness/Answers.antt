use Rattle.std.proofs.Common.{subst}
use Rattle.race_verdict.specs.Traces.{capacities}
use Rattle.race_shards.{specs.Pairs.IsFound, proofs.OrderSteps.order_is_witness}
use Rattle.race_shards.proofs.witnesses.witness.Goals as goal

pub returns-clause-witness : goal.returns-clause-witness
returns-clause-witness g c =
    let trace = c.args.trace.now in
    order_is_witness (capacities trace) trace.events c.args.race.now c.in_ok-pair.pair c.in_ok-order_of.field-0.items
    (subst (IsFound (capacities trace) trace.events c.args.race.now) c.in_ok-pair.ensures.found c.in_ok-pair_of.ensures) c.in_ok-order_of.ensures
