-- An ask that receives from a channel has an offer that does, and all were looked at.
use Rattle.std.proofs.{Common.{◌≡◌, Some, ap, ◌∙◌, inl, inr, slice_get, arith}, lemmas.Bool.cases_lt}
use Rattle.std.proofs.lemmas.Option.{slice_get_within}
use Rattle.race_requests.specs.{Table.offers_of, Waiting.receives_from}
use Rattle.race_requests.proofs.ReceiverLemmas.{any_found, received_is}
use Rattle.race_requests.proofs.receivers.Receivers.mark_offers.Goals as goal

pub returns-clause-marked : goal.returns-clause-marked
returns-clause-marked c chan received =
    let offers = offers_of c.args.ask.now in
    let found = any_found (receives_from chan) offers received in
    let within = slice_get_within offers found.index found.element found.there in
    c.loop-branch.invariant.marked chan found.index (omega (arith, within, c.offer_count-branch-end.ensures.count, c.loop-branch-test.false))
    (found.there ∙ ap (λ o. Some o) (received_is chan found.element found.passes))

pub loop-branch-preserved : goal.loop-branch-preserved
loop-branch-preserved c = record {
  marked = λ chan k below there. elim (cases_lt k c.loop-branch.branch) [
    | inl early ↦ c.mark_offer.ensures.kept chan c.args.place (c.loop-branch.invariant.marked chan k early there)
    | inr late ↦
        let last : c.loop-branch.branch ≡ k = omega (arith, below, late) in
        c.mark_offer.ensures.marked chan (c.offer_at.ensures.offer ∙ ap (slice_get (offers_of c.args.ask.now)) last ∙ there)
  ];
  kept = λ other i was. c.mark_offer.ensures.kept other i (c.loop-branch.invariant.kept other i was);
  last = c.mark_offer.ensures.last;
}
