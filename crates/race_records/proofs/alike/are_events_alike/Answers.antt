use Rattle.std.proofs.{Common.{◌≡◌, length, refl, sym, ◌∙◌, arith}, lemmas.List.length-map}
use Rattle.race_records.{specs.TraceEquality.{placed, placed_events}, proofs.ListLemmas.same_elements}
use Rattle.race_records.proofs.alike.are_events_alike.Goals as goal

pub returns : goal.returns
returns g c =
    let trace = c.args.trace.now in
    let other = c.args.other.now in
    let here = length-map trace.events (placed trace.decls.places) in
    let there = length-map other.events (placed other.decls.places) in
    let same : length trace.events ≡ length other.events = omega (arith, c.len.ensures.len, c.len-2.ensures.len, c.if-len.false) in (
      λ _. same_elements (placed_events trace) (placed_events other) (here ∙ same ∙ sym there)
          (λ k within. c.loop-index.invariant k (omega (arith, within, here, c.len-index-end.ensures.len, c.loop-index-test.false))),
      λ _. refl,
    )
