use Rattle.std.proofs.Common.{arith, refl, length, ap, sym, ◌∙◌}
use Rattle.std.proofs.lemmas.Option.{slice_get_read, slice_get_within}
use Rattle.race_explore.specs.declared.explored.RacyVariable.{RacyVariable}
use Rattle.race_explore.specs.Told.{IsOn}
use Rattle.race_explore.proofs.ElementLemmas.{nowhere_more}
use Rattle.race_explore.proofs.places.place_of.Goals as goal

pub returns-then-racy-place-clause-found : goal.returns-then-racy-place-clause-found
returns-then-racy-place-clause-found g c =
    let racy = c.args.racy.now in
    let v = c.index-racy-place.result in (
      v,
      slice_get_read racy (length racy) c.loop-place.place v refl (omega arith) c.index-racy-place.is,
      ap (λ (x : RacyVariable g.row.A.Denot). x.race.var) c.index-racy-place.is ∙ c.if-racy-place.true,
    )

pub loop-place-preserved : goal.loop-place-preserved
loop-place-preserved g c =
    let racy = c.args.racy.now in
    let v = c.index-racy-place.result in
    nowhere_more (IsOn {A = g.row.A.Denot} c.args.var) racy c.loop-place.place v c.loop-place.invariant
    (slice_get_read racy (length racy) c.loop-place.place v refl (omega arith) c.index-racy-place.is)
    (λ on. c.if-racy-place.false (sym (ap (λ (x : RacyVariable g.row.A.Denot). x.race.var) c.index-racy-place.is) ∙ on))

pub returns-clause-none : goal.returns-clause-none
returns-clause-none g c = λ _ k v at on.
    let within = slice_get_within c.args.racy.now k v at in
    c.loop-place.invariant k v (omega (arith, within)) at on
