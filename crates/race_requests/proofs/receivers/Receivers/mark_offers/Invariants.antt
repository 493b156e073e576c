-- The place stands in the spans of the offers so far, and what stood in a span still does.
use Rattle.std.proofs.Common.{◌≡◌, ℕ, ◌<◌, ◌+◌, slice_get, Some}
use Rattle.race_requests.specs.{declared.request.Offer.Offer, Receivers.{IsInSpan, ReachTo}, Table.offers_of}
use Rattle.race_requests.proofs.receivers.Receivers.mark_offers.Given as goal

abbrev pub invariant-loop-branch : goal.invariant-loop-branch
invariant-loop-branch l = record {
  marked : (chan k : ℕ) → k < l.branch → slice_get (offers_of l.ask) k ≡ Some (Offer.Recv (Some chan)) → IsInSpan l.self chan l.place;
  kept : (chan i : ℕ) → IsInSpan l.fn.self chan i → IsInSpan l.self chan i;
  last : ReachTo l.self l.place (l.place + 1);
}
