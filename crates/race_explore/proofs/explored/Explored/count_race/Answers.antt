use Rattle.std.proofs.Common.{◌≡◌, List, Some, length, slice_get, refl, ap, sym, ◌∙◌, subst, inl, inr}
use Rattle.std.proofs.lemmas.Option.{same_Some, slice_get_read, slice_get_within}
use Rattle.race_explore.specs.declared.explored.RacyVariable.{RacyVariable}
use Rattle.race_explore.specs.Told.{IsOn, StandsNowhere}
use Rattle.race_explore.proofs.explored.Explored.count_race.Goals as goal

pub returns-in-Some-clause-racy : goal.returns-in-Some-clause-racy
returns-in-Some-clause-racy g c =
    let racy = c.args.self.now.racy.items in
    let place = c.in-Some.place in
    let found = c.in-Some.ensures.found in
    let v : RacyVariable g.row.A.Denot = c.index_mut.result.now in
    let there : slice_get racy place ≡ Some found.0 = ap (λ (xs : List (RacyVariable g.row.A.Denot)). slice_get xs place) (sym c.as_slice.ensures.value) ∙ found.1 in
    let at : slice_get racy place ≡ Some v =
    slice_get_read racy (length racy) place v refl (slice_get_within racy place found.0 there) c.index_mut.ensures.value in
    let same : found.0 ≡ v = same_Some found.0 v (sym there ∙ at) in
    inl (place, v, at, subst (IsOn {A = g.row.A.Denot} c.args.race.var) same found.2, refl)

pub returns-clause-racy : goal.returns-clause-racy
returns-clause-racy g c =
    let v : RacyVariable g.row.A.Denot = record { race = c.reported.result; runs = 1; picks = c.in_ok-picks.picks } in
    let nowhere = subst (λ (xs : List (RacyVariable g.row.A.Denot)). StandsNowhere (IsOn {A = g.row.A.Denot} c.args.race.var) xs)
    c.as_slice.ensures.value (c.in_default.ensures.none refl) in
    inr (
      nowhere,
      v,
      record { race = c.reported.ensures.race; accesses = c.reported.ensures.accesses; picks = c.in_ok-picks.ensures.items; runs = refl },
      c.in_ok-push.ensures.items,
    )
