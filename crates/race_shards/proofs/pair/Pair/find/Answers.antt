use Rattle.std.proofs.Common.{sym, ◌∙◌, subst}
use Rattle.race_model.proofs.ReorderLemmas.{access_passes}
use Rattle.race_verdict.specs.Traces.{capacities}
use Rattle.race_shards.{specs.Pairs.{PairState, IsSeenAt}, proofs.PairSteps.{no_race, is_pair_of}}
use Rattle.race_shards.proofs.pair.Pair.find.Goals as goal

pub returns-then-not-races_on : goal.returns-then-not-races_on
returns-then-not-races_on g c =
    let p : PairState = record { first = c.in-Some.earlier; second = c.in-Some-2.later } in
    no_race (capacities c.args.trace.now) c.args.trace.now.events c.args.race.now p
    (subst (IsSeenAt (capacities c.args.trace.now) c.args.trace.now.events c.args.race.now.first) c.in-Some.is c.in_ok-earlier.ensures.seen)
    (subst (IsSeenAt (capacities c.args.trace.now) c.args.trace.now.events c.args.race.now.second) c.in-Some-2.is c.in_ok-later.ensures.seen)
    (sym c.races_on.ensures ∙ c.if-not-races_on.true)

-- the second event is no access, so there is no race
pub returns-in_default-2 : goal.returns-in_default-2
returns-in_default-2 g c = λ found.
    subst (IsSeenAt (capacities c.args.trace.now) c.args.trace.now.events c.args.race.now.second) c.in_default-2.is c.in_ok-later.ensures.seen
    (access_passes (capacities c.args.trace.now) c.args.trace.now.events c.args.race.now.var c.args.race.now.second found.race.conflict.2)

pub returns : goal.returns
returns g c =
    let p : PairState = record { first = c.in-Some.earlier; second = c.in-Some-2.later } in
    is_pair_of (capacities c.args.trace.now) c.args.trace.now.events c.args.race.now p
    (subst (IsSeenAt (capacities c.args.trace.now) c.args.trace.now.events c.args.race.now.first) c.in-Some.is c.in_ok-earlier.ensures.seen)
    (subst (IsSeenAt (capacities c.args.trace.now) c.args.trace.now.events c.args.race.now.second) c.in-Some-2.is c.in_ok-later.ensures.seen)
    c.requires (sym c.races_on.ensures ∙ c.if-not-races_on.false)
