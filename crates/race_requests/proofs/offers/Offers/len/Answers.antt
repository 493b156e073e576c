use Rattle.std.proofs.Common.{length, List, sym, ap, ◌∙◌, arith}
use Rattle.race_requests.{specs.declared.request.Offer.Offer, proofs.OfferLemmas.offers_len}
use Rattle.race_requests.proofs.offers.Offers.len.Goals as goal

pub returns-clause-len : goal.returns-clause-len
returns-clause-len c =
    c.len.ensures.len ∙ sym (offers_len c.self.inside.cases c.self.inside.values (omega (arith, c.self.invariant.0, c.self.invariant.1)))
    ∙ ap (λ (offers : List Offer). length offers) c.self.view_is
