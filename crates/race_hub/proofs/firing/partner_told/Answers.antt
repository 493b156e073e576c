use Rattle.std.proofs.Common.{◌≡◌, ◌==◌, ◌-◌, ◌<◌, false, Some, None, if◌then◌else◌, refl, sym, ◌∙◌}
use Rattle.std.proofs.{Common.{ap, slice_get, length, arith}, lemmas.{Bool.Decides.nat_tests, Option.slice_get_read}}
use Rattle.race_requests.specs.Table.{done_by, told_at}
use Rattle.race_hub.{specs.Fires.partner_of, proofs.PartnerLemmas.told_once}
use Rattle.race_hub.proofs.firing.partner_told.Goals as goal

pub returns : goal.returns
returns c =
    let ws = c.args.waiting.now in
    let t = c.args.choice in
    let w = c.index-waiting-choice.result in
    let branch = t.partner_offer - 1 in
    let some : 0 < t.partner = grind (arith, nat_tests) in
    let at : slice_get ws (t.partner - 1) ≡ Some w =
    slice_get_read ws (length ws) (t.partner - 1) w refl (omega (arith, some, c.requires.partner)) c.index-waiting-choice.is in
    let off : (t.partner == 0) ≡ false = grind (arith, nat_tests) in
    let is : partner_of t ws ≡ Some w = ap (λ b. if b then None else slice_get ws (t.partner - 1)) off ∙ at in
    let row : told_at w.asked.ask branch (done_by w.who c.args.op.now) ≡ Some c.in-Some.told =
    ap (λ k. told_at w.asked.ask k (done_by w.who c.args.op.now)) (sym c.saturating_sub-branch.ensures) ∙ sym c.answer_of.ensures ∙ c.in-Some.is in
    told_once (partner_of t ws) w branch c.args.op.now c.requires.row.0 c.in-Some.told is row c.requires.row.1
