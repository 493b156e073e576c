use Rattle.std.proofs.Common.{◌∙◌, sym, rules, false}
use Rattle.race_records.proofs.AlikeLemmas.{alike_by, by_op, by_place, by_texts}
use Rattle.race_records.proofs.EventLemmas.{place_in_range, second_in_range}
use Rattle.race_records.proofs.alike.are_alike_at.Goals as goal

pub event-here-requires : goal.event-here-requires
event-here-requires g c = c.requires.here

pub event-there-requires : goal.event-there-requires
event-there-requires g c = c.requires.there

pub place_text-requires : goal.place_text-requires
place_text-requires g c = place_in_range c.args.trace.now.decls c.event-here.result.now c.event-here.ensures.fits

pub place_text-requires-2 : goal.place_text-requires-2
place_text-requires-2 g c = place_in_range c.args.other.now.decls c.event-there.result.now c.event-there.ensures.fits

pub are_second_places_alike-requires-clause-here : goal.are_second_places_alike-requires-clause-here
are_second_places_alike-requires-clause-here g c = second_in_range c.args.trace.now.decls c.event-here.result.now c.event-here.ensures.fits

pub are_second_places_alike-requires-clause-there : goal.are_second_places_alike-requires-clause-there
are_second_places_alike-requires-clause-there g c = second_in_range c.args.other.now.decls c.event-there.result.now c.event-there.ensures.fits

pub returns : goal.returns
returns g c =
    let trace = c.args.trace.now in
    let other = c.args.other.now in
    let here = c.event-here.result.now in
    let there = c.event-there.result.now in
    alike_by trace other c.args.index here there c.event-here.ensures.event c.event-there.ensures.event c.are_second_places_alike.result
    (c.are_second_places_alike.ensures
    ∙ by_texts trace other c.args.index here there c.event-here.ensures.event c.event-there.ensures.event
    (search rules) (sym c.is_same_op.ensures ∙ search rules)
    c.place_text.result.now c.place_text-2.result.now c.place_text.ensures c.place_text-2.ensures (search rules))

pub returns-then-not-is_same_op : goal.returns-then-not-is_same_op
returns-then-not-is_same_op g c =
    let trace = c.args.trace.now in
    let other = c.args.other.now in
    let here = c.event-here.result.now in
    let there = c.event-there.result.now in
    alike_by trace other c.args.index here there c.event-here.ensures.event c.event-there.ensures.event false
    (by_op trace other c.args.index here there c.event-here.ensures.event c.event-there.ensures.event (search rules) (sym c.is_same_op.ensures ∙ search rules))

pub returns-then-ne : goal.returns-then-ne
returns-then-ne g c =
    let trace = c.args.trace.now in
    let other = c.args.other.now in
    let here = c.event-here.result.now in
    let there = c.event-there.result.now in
    alike_by trace other c.args.index here there c.event-here.ensures.event c.event-there.ensures.event false
    (by_place trace other c.args.index here there c.event-here.ensures.event c.event-there.ensures.event
    (search rules) (sym c.is_same_op.ensures ∙ search rules)
    c.place_text.result.now c.place_text-2.result.now c.place_text.ensures c.place_text-2.ensures (search rules))
