-- The logs of a hub's goroutines, by number. (Our own)
use Rattle.std.specs.Prelude.{ℕ, List, [], ◌∷◌, ◌++◌, Bool, Option, Some, None, map, slice_get, slice_set, unwrap_or}
use Rattle.race_requests.specs.declared.request.{Answer.Answer, Step.Step, Waiter.Waiter}
use Rattle.race_hub.specs.Tracks.{TrackState}

-- the `Logs` as a hub sees them: the steps, and whether there is room for one more
pub record LogsState : Type 0 where
  pub logs : List (List Step)
  pub have_room : List Bool

-- g's log; without a step where there is none
abbrev pub log_of : ℕ → List (List Step) → List Step
log_of g logs = unwrap_or (slice_get logs g) []

-- the logs once who waited, if anyone did, is told this: its log has one step more, what it asked and what it was told
abbrev pub with_step : Option Waiter → Option Answer → List (List Step) → List (List Step)
with_step None told logs = logs
with_step (Some w) told logs = slice_set logs w.who (log_of w.who logs ++ record { asked = w.asked; told = told } ∷ [])

-- the logs of these tracks
abbrev pub logs_in : List TrackState → List (List Step)
logs_in tracks = map (λ t. t.log) tracks
