-- The requests so far stand in their spans, and no span reaches further.
use Rattle.std.proofs.Common.{◌≡◌, ℕ, ◌<◌, true}
use Rattle.race_requests.specs.{Receivers.{IsInSpan, ReachTo}, Waiting.receives_at}
use Rattle.race_requests.proofs.receivers.Receivers.of.Given as goal

abbrev pub invariant-loop-place : goal.invariant-loop-place
invariant-loop-place l = record {
  marked : (chan p : ℕ) → p < l.place → receives_at l.waiting chan p ≡ true → IsInSpan l.receivers chan p;
  last : ReachTo l.receivers l.place l.place;
}
