use Rattle.std.proofs.Common.{◌≡◌, ◌∙◌, ◌==◌, ◌<◌, length, false, sym, ap, subst, arith, Some, slice_set}
use Rattle.std.proofs.lemmas.{Bool.Decides.nat_tests, Option.{slice_get-get_or, slice_get_within}}
use Rattle.race_model.specs.Events.{gives}
use Rattle.race_hub.{specs.Tracks.OneHasPassed, proofs.TrackLemmas.{one_passes, nobody_passes}}
use Rattle.race_hub.proofs.track.pass_by.Goals as goal

pub returns-then-goroutine-len : goal.returns-then-goroutine-len
returns-then-goroutine-len g c =
    let h = c.in-Some.goroutine in
    let old = c.args.tracks.now.items in
    let t = c.index_mut.result.now in
    let less = c.if-goroutine-len.true in
    let count = c.len.ensures in
    let len = c.args.tracks.now.ok.0 in
    let within : h < length old = omega (arith, less, count, len) in
    let at = slice_get-get_or old h t within ∙ ap Some (sym c.index_mut.ensures.value) in
    subst (λ who. OneHasPassed who c.args.event.now old (slice_set old h c.pass.new.self)) (sym c.in-Some.is)
    (one_passes h c.args.event.now old t c.pass.new.self at c.pass.ensures.log c.pass.ensures.tracked)

pub returns-else-goroutine-len : goal.returns-else-goroutine-len
returns-else-goroutine-len g c =
    nobody_passes c.args.goroutine c.args.event.now c.args.tracks.now.items (λ k t at.
    let within = slice_get_within c.args.tracks.now.items k t at in
    let beyond = c.if-goroutine-len.false in
    let count = c.len.ensures in
    let len = c.args.tracks.now.ok.0 in
    let above : k < c.in-Some.goroutine = omega (arith, within, beyond, count, len) in
    let not : (c.in-Some.goroutine == k) ≡ false = grind (arith, nat_tests) in
    ap (λ who. gives who k) c.in-Some.is ∙ not)
