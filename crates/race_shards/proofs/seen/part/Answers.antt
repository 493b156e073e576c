-- A part is passed where the goroutine takes part in the event.
use Rattle.std.proofs.Common.{◌≡◌, ◌+◌, take, sym, ◌∙◌, arith}
use Rattle.race_model.specs.Clocks.{participations}
use Rattle.race_shards.proofs.SeenSteps.{one_more, no_more}
use Rattle.race_shards.proofs.seen.part.Goals.{then-takes_part+else-left-eq1, else-takes_part}
use Rattle.race_shards.proofs.seen.part.Goals as goal

pub loop-at-preserved : goal.loop-at-preserved
loop-at-preserved g c =
    let events = c.args.trace.now.events in
    let at = c.loop-at.at in
    let who = c.args.goroutine in
    let old = c.loop-at.invariant.counted in
    let some = c.loop-at.invariant.some in
    elim c.if-takes_part.branch [
      | then-takes_part+else-left-eq1 w ↦
          let more : participations who (take (at + 1) events) ≡ participations who (take at events) + 1 =
          one_more events who at c.event.result.now c.event.ensures.event (sym c.takes_part.ensures ∙ w.if-takes_part.true) in
          let less = w.left-is in
          let other = w.if-left-eq1.false in
          record { counted = omega (arith, more, less, old, some); some = omega (arith, less, other, some) }
      | else-takes_part w ↦
          let none : participations who (take (at + 1) events) ≡ participations who (take at events) =
          no_more events who at c.event.result.now c.event.ensures.event (sym c.takes_part.ensures ∙ w.if-takes_part.false) in
          let same = w.left-is in
          record { counted = omega (arith, none, same, old); some = omega (arith, same, some) }
    ]
