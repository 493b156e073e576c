use Rattle.race_verdict.specs.Traces.{capacities}
use Rattle.race_shards.{specs.{Walking.StandsAt, Listing.{IsOfPart, Adds}}, proofs.AllLemmas.Below}
use Rattle.race_shards.proofs.order.add_part.Given as goal

-- of the events before the index the accesses of the part are put behind the order
abbrev pub invariant-loop-at : goal.invariant-loop-at
invariant-loop-at g l = record {
  stands : StandsAt l.trace l.at l.stamper;
  adds : Adds (Below l.at (IsOfPart l.part (capacities l.trace) l.trace.events l.pair.first.stamp.at l.pair.second.stamp.at)) l.initial.order.items l.order.items;
}
