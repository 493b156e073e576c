use Rattle.std.proofs.Common.{[], ◌∷◌, take, get_or, subst, arith, ◌<◌, ◌≤◌, length}
use Rattle.std.proofs.lemmas.List.{take_more, take_all}
use Rattle.race_access.{specs.Kept.{IsGreatestUnknown, note_found, no_access}, proofs.KeepSteps.greatest_of_both}
use Rattle.race_access.proofs.accesses.greatest_unknown.Goals as goal

pub loop-access-preserved : goal.loop-access-preserved
loop-access-preserved g c =
    let less : c.loop-access.access-index < length c.args.accesses.now = omega arith in
    let both =
    greatest_of_both c.args.clock.now (take c.loop-access.access-index c.args.accesses.now)
    (get_or c.args.accesses.now c.loop-access.access-index no_access ∷ [])
    (note_found c.loop-access.greatest) (note_found c.unknown.result) c.loop-access.invariant c.unknown.ensures in
    rw (take_more c.args.accesses.now c.loop-access.access-index no_access less, c.greater-greatest.ensures) both

pub returns : goal.returns
returns g c =
    let all : length c.args.accesses.now ≤ c.loop-access.access-index = omega arith in
    subst (λ xs. IsGreatestUnknown c.args.clock.now xs (note_found c.loop-access.greatest))
    (take_all c.loop-access.access-index c.args.accesses.now all) c.loop-access.invariant
