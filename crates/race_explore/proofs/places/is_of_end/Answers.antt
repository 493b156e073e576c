use Rattle.std.proofs.Common.{sym, ◌∙◌}
use Rattle.std.proofs.lemmas.Slice.Eq.{slice_eq-Decides}
use Rattle.race_explore.proofs.BadEndLemmas.{same_place}
use Rattle.race_explore.proofs.places.is_of_end.Goals as goal

pub returns-then-is_same_end : goal.returns-then-is_same_end
returns-then-is_same_end g c =
    let same = slice_eq-Decides same_place c.as_slice.result.now c.args.standing.now c.eq.result c.eq.ensures in (
      λ is. (c.is_same_end.ensures.0 c.if-is_same_end.true, sym c.as_slice.ensures.value ∙ same.0 is),
      λ of. same.1 (c.as_slice.ensures.value ∙ of.1),
    )
