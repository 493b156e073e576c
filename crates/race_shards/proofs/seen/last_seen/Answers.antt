-- The clock of the second access counts what it has seen of the first one's goroutine.
use Rattle.std.proofs.Common.{subst}
use Rattle.race_verdict.specs.Traces.{capacities}
use Rattle.race_shards.{specs.{Pairs.{PairState, IsFound}, Seen.IsPart}, proofs.SeenSteps.last_is}
use Rattle.race_shards.proofs.seen.last_seen.Goals as goal

pub returns : goal.returns
returns g c =
    let trace = c.args.trace.now in
    let pair : PairState = c.in-Some.pair in
    last_is (capacities trace) trace.events c.args.race.now pair
    (subst (IsFound (capacities trace) trace.events c.args.race.now) c.in-Some.is c.in_ok-pair.ensures) c.part.result
    (subst (λ n. IsPart trace.events pair.first.stamp.who n c.part.result) c.seen_of_first.ensures
    (subst (λ who. IsPart trace.events who c.seen_of_first.result c.part.result) c.first_who.ensures c.part.ensures))
