use Rattle.std.proofs.Common.{subst, ap, length, arith}
use Rattle.race_hub.{specs.{Kept.IsKept, HubHolds.hub_state}, proofs.EndedLemmas.few_wait}
use Rattle.race_hub.proofs.hub.Hub.list.Goals as goal

pub returns-clause-kept : goal.returns-clause-kept
returns-clause-kept g c = subst IsKept c.self.view_is c.self.invariant.0.kept

pub new-requires-clause-few : goal.new-requires-clause-few
new-requires-clause-few g c =
    let holds = c.self.invariant.0 in
    let few = few_wait (hub_state c.self.inside.fields) holds.kept.once holds.kept.places in
    let most = holds.few_goroutines in
    let len = ap length c.as_slice.ensures.value in
    omega (arith, few, most, len)
