use Rattle.std.proofs.{lemmas.{Grind.common_steps, Option.slice_get-get_or}, Common.{◌≡◌, ◌∙◌, ◌+◌, ◌∷◌, [], suc, take}}
use Rattle.std.proofs.Common.{sym, ap, subst, arith, Some}
use Rattle.race_model.proofs.Indexes.{take_suc}
use Rattle.race_hub.{specs.Tracks.HavePassed, proofs.TrackLemmas.passed_more}
use Rattle.race_hub.proofs.track.pass_all.Goals as goal

pub loop-event-preserved : goal.loop-event-preserved
loop-event-preserved g c =
    let i = c.loop-event.event-index in
    let events = c.args.events.now in
    let at = slice_get-get_or events i c.event-item.result c.loop-event-test.true ∙ ap Some (sym c.event-item.is) in
    let one : i + 1 ≡ suc i = omega arith in
    let more = ap (λ n. take n events) one ∙ take_suc i events c.event-item.result at in
    subst (λ es. HavePassed es c.args.tracks.now.items c.pass.new.tracks.items) (sym more)
    (passed_more c.args.tracks.now.items c.loop-event.tracks.items c.pass.new.tracks.items
    (take i events) (c.event-item.result ∷ []) c.loop-event.invariant c.pass.ensures)

pub returns : goal.returns
returns c = grind (arith, common_steps) steps 1000000
