use Rattle.race_shards.specs.Walking.{StandsAt}
use Rattle.race_shards.proofs.pair.Seen.walk.Given as goal

abbrev pub invariant-loop-index : goal.invariant-loop-index
invariant-loop-index g l = record { stands : StandsAt l.trace l.index l.stamper }
