use Rattle.race_requests.proofs.OfferLemmas.{kept_offer_range}
use Rattle.race_requests.proofs.offers.offers_keep_their_range.Goals as goal

pub returns : goal.returns
returns c = kept_offer_range
