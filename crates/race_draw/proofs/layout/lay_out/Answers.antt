use Rattle.race_draw.proofs.LayoutLemmas.{listed_are_edges, parts_can_be_drawn}
use Rattle.race_draw.proofs.layout.lay_out.Goals as goal

pub way-requires : goal.way-requires
way-requires g c = listed_are_edges c.args.trace.now c.args.edges.now c.requires.edges

pub returns-clause-drawable : goal.returns-clause-drawable
returns-clause-drawable g c =
    parts_can_be_drawn c.args.trace.now c.len-events.ensures.is_trace c.args.race.now c.requires.race
    c.in_ok-seen.seen _ _ _ _ c.missing-missing.ensures c.in_ok-seen.ensures c.in_ok-picture.ensures
