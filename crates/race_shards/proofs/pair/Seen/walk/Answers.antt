use Rattle.std.proofs.Common.{◌≡◌, subst, arith}
use Rattle.race_shards.specs.Walking.{StandsAt}
use Rattle.race_shards.proofs.pair.Seen.walk.Goals as goal

-- behind the loop the event is the next
pub step-requires-2-clause-stands : goal.step-requires-2-clause-stands
step-requires-2-clause-stands g c =
    let end : c.loop-index.index ≡ c.args.at = omega (arith, c.loop-index-test.false, c.loop-index.auto.index-end c.requires.order) in
    subst (λ n. StandsAt c.args.trace.now n c.loop-index.stamper) end c.loop-index.invariant.stands
