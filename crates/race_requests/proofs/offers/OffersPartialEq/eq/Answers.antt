use Rattle.std.proofs.{Common.◌≡◌, lemmas.Bool.Decides.same_from_decides}
use Rattle.race_requests.specs.Offers.{same_offers, same_offers-Decides}
use Rattle.race_requests.proofs.offers.OffersPartialEq.eq.Goals as goal

pub returns-clause-eq : goal.returns-clause-eq
returns-clause-eq c =
    let offers = c.args.self.now in
    let others = c.args.other.now in
    same_from_decides {P = offers ≡ others} c.are_same.result (same_offers offers others) c.are_same.ensures (same_offers-Decides offers others)
