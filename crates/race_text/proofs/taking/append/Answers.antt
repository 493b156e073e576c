use Rattle.std.{proofs.Common.{ap, ◌∙◌, arith}, specs.Option.option_map}
use Rattle.race_records.specs.Declarations.{DeclsState, place_number}
use Rattle.race_text.{specs.{Reading.drafted, Taking.with_second}, proofs.TraceLemmas.draft_has_room}
use Rattle.race_text.proofs.taking.append.Goals as goal

pub append-requires-clause-allowed : goal.append-requires-clause-allowed
append-requires-clause-allowed g c =
    let o = drafted c.args.draft in
    let first = c.in_ok-place.ensures in
    let second = c.in_ok-place2.ensures in
    let number2 = second.number ∙ ap (λ (d : DeclsState). option_map (place_number d.places) o.place2) first.decls in
    draft_has_room c.args.trace.now c.add_second.new.trace o _ c.requires.fits (omega arith)
    (second.decls ∙ ap (λ (d : DeclsState). with_second d o.place2) first.decls) (second.events ∙ first.events)
    (λ i. record { who = o.who; op = o.op; place = first.number i; place2 = number2 i })
