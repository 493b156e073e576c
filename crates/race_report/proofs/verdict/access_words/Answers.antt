use Rattle.std.proofs.Common.{◌≡◌, ◌<◌, [], unwrap_or, sym, ap, ◌∙◌, subst}
use Rattle.race_records.specs.{declared.{event.Event.Event, kind.Kind.Kind}, Declarations.{DeclsState, count_of}}
use Rattle.race_legal.proofs.RangeLemmas.{range_from_fits}
use Rattle.race_text.specs.Text.{goroutine_name, place_text}
use Rattle.race_report.proofs.{ReportLemmas.access_text_is, PrintableLemmas.place_from_fits}
use Rattle.race_report.proofs.verdict.access_words.Goals as goal

pub name-requires : goal.name-requires
name-requires g c =
    let event = c.event-event.result.now in
    subst (λ (d : DeclsState). event.who < count_of Kind.Goroutine d.declarations) (sym c.decls.ensures.decls)
    (range_from_fits c.args.trace.now.decls event c.event-event.ensures.fits).0

pub place_text-requires : goal.place_text-requires
place_text-requires g c = place_from_fits c.args.trace.now.decls c.event-event.result.now c.event-event.ensures.fits

pub returns : goal.returns
returns g c =
    let trace = c.args.trace.now in
    let e : Event = c.event-event.result.now in
    let who : c.as_bytes-2.result.now ≡ goroutine_name trace.decls.declarations e.who = c.as_bytes-2.ensures.value
    ∙ sym (ap (λ o. unwrap_or o []) c.name.ensures) ∙ ap (λ (d : DeclsState). goroutine_name d.declarations e.who) c.decls.ensures.decls in
    let place : c.as_bytes-3.result.now ≡ place_text trace.decls.places e.place = c.as_bytes-3.ensures.value ∙ sym (ap (λ o. unwrap_or o []) c.place_text.ensures) in
    access_text_is trace c.args.index e c.as_bytes.result.now c.as_bytes-2.result.now c.as_bytes-3.result.now c.event-event.ensures.event
    (c.as_bytes.ensures.value ∙ c.access_word.ensures) who place
