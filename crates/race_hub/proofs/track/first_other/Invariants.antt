-- Those so far are passed.
use Rattle.std.proofs.Common.{◌≡◌, ◌<◌, ℕ, true, slice_get, Some}
use Rattle.race_hub.specs.Tracks.{TrackState, is_through}
use Rattle.race_hub.proofs.track.first_other.Given as goal

abbrev pub invariant-loop-goroutine : goal.invariant-loop-goroutine
invariant-loop-goroutine g l = record {
  passed : (k : ℕ) (t : TrackState) → k < l.goroutine → slice_get l.tracks k ≡ Some t → is_through t ≡ true;
}
