use Rattle.std.proofs.Common.{sym}
use Rattle.race_text.{specs.Words.parts_left, proofs.{CutLemmas.some_part, PlaceWords.not_last}}
use Rattle.race_text.proofs.event.last_place.Goals as goal

pub returns-in-Some-behind : goal.returns-in-Some-behind
returns-in-Some-behind c =
    sym (not_last (parts_left 32 c.args.rest) (c.in-Some.place.now, parts_left 32 c.in-Some.behind)
    (sym c.in-Some.ensures) (some_part 32 c.in-Some.behind _ c.in-Some-behind.is))
