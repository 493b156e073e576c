-- What holds of every `Hub`.
use Rattle.std.specs.Prelude.{ℕ, ◌≡◌, ◌≤◌, length, Some, None, All, IsTrue}
use Rattle.race_records.specs.declared.{kind.{Kind.Kind, TheConstants.MAX_GOROUTINES}, trace.TheConstants.MAX_EVENTS}
use Rattle.race_records.specs.Declarations.{count_of}
use Rattle.race_legal.specs.{ReplayState.ReplayState, StandsFor.StandsFor}
use Rattle.race_requests.specs.Sound.{is_sound}
use Rattle.race_hub.specs.{Hub.{HubState, stop_of}, Kept.IsKept, Recording.HasBadRequest}

-- the state is kept, the replay stands for its events, and what a firing needs is there
pub record Holds {R : Type 0} (k : ReplayState) (h : HubState R) : Type 0 where
  pub kept : IsKept h
  pub stands : StandsFor h.decls.declarations k h.events
  pub few : h.limit ≤ MAX_EVENTS
  pub few_goroutines : length h.routines ≤ MAX_GOROUTINES
  pub count : length h.routines ≡ count_of Kind.Goroutine h.decls.declarations
  -- until it stops, each request that waits is sound
  pub sound : stop_of h ≡ None → All (λ w. IsTrue (is_sound h.decls w)) h.waiting
  -- whose request was bad, that one's waits
  pub bad_waits : (g : ℕ) → h.bad ≡ Some g → HasBadRequest h.decls h.events h.waiting g
