use Rattle.std.proofs.Common.{length, List, Some, slice_get, sym, ap, ◌∙◌, arith}
use Rattle.race_requests.{specs.declared.request.Offer.Offer, proofs.OfferLemmas.{offers_len, offer_at_is}}
use Rattle.race_requests.proofs.offers.Offers.get.Goals as goal

pub get-requires : goal.get-requires
get-requires c =
    let len = offers_len c.self.inside.cases c.self.inside.values (omega (arith, c.self.invariant.0, c.self.invariant.1)) in
    omega (arith, len, ap (λ (offers : List Offer). length offers) c.self.view_is, c.requires)

pub offset_bounds-self-inside-k : goal.offset_bounds-self-inside-k
offset_bounds-self-inside-k c =
    let len = offers_len c.self.inside.cases c.self.inside.values (omega (arith, c.self.invariant.0, c.self.invariant.1)) in
    omega (arith, len, ap (λ (offers : List Offer). length offers) c.self.view_is, c.requires, c.self.invariant.0)

pub bounds-self-inside-k : goal.bounds-self-inside-k
bounds-self-inside-k c =
    let len = offers_len c.self.inside.cases c.self.inside.values (omega (arith, c.self.invariant.0, c.self.invariant.1)) in
    omega (arith, len, ap (λ (offers : List Offer). length offers) c.self.view_is, c.requires, c.self.invariant.0)

pub returns : goal.returns
returns c =
    ap (λ (offers : List Offer). slice_get offers c.args.k) (sym c.self.view_is)
    ∙ offer_at_is c.self.inside.cases c.self.inside.values c.args.k c.get.result (omega (arith, c.self.invariant.0, c.self.invariant.1)) c.get.ensures
    ∙ ap (λ (o : Offer). Some o) (sym c.offer_of.ensures)
