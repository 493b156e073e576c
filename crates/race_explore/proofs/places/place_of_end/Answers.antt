use Rattle.std.proofs.Common.{arith, refl, length, sym, ◌∙◌, true≢false}
use Rattle.std.proofs.lemmas.Option.{slice_get_read, slice_get_within}
use Rattle.race_explore.specs.Ends.{IsOfEnd}
use Rattle.race_explore.proofs.ElementLemmas.{nowhere_more}
use Rattle.race_explore.proofs.places.place_of_end.Goals as goal

pub returns-then-is_of_end-clause-found : goal.returns-then-is_of_end-clause-found
returns-then-is_of_end-clause-found g c =
    let bad = c.args.bad.now in
    let b = c.index-bad-place.result in
    let of = c.is_of_end.ensures.0 c.if-is_of_end.true in
    (b, slice_get_read bad (length bad) c.loop-place.place b refl (omega arith) c.index-bad-place.is, of)

pub loop-place-preserved : goal.loop-place-preserved
loop-place-preserved g c =
    let bad = c.args.bad.now in
    let b = c.index-bad-place.result in
    nowhere_more (IsOfEnd {A = g.row.A.Denot} c.args.end c.args.standing.now) bad c.loop-place.place b c.loop-place.invariant
    (slice_get_read bad (length bad) c.loop-place.place b refl (omega arith) c.index-bad-place.is)
    (λ of. true≢false (sym (c.is_of_end.ensures.1 of) ∙ c.if-is_of_end.false))

pub returns-clause-none : goal.returns-clause-none
returns-clause-none g c = λ _ k b at of.
    let within = slice_get_within c.args.bad.now k b at in
    c.loop-place.invariant k b (omega (arith, within)) at of
