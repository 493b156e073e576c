use Rattle.std.proofs.Common.{map, ap, ◌∙◌, arith}
use Rattle.race_requests.{specs.Offers.case_of, proofs.OfferLemmas.cases_again}
use Rattle.race_requests.proofs.offers.Offers.cases.Goals as goal

pub returns : goal.returns
returns c =
    c.copy.ensures.same ∙ cases_again c.self.inside.cases c.self.inside.values (omega (arith, c.self.invariant.0, c.self.invariant.1))
    ∙ ap (map case_of) c.self.view_is
