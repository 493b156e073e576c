-- What a hub's recording is, and why there is none. (Our own)
use Rattle.std.specs.Prelude.{ℕ, ◌≡◌, ◌<◌, ◌≤◌, List, [], length, slice_get, Some, None, IsSome}
use Rattle.race_records.specs.{declared.{event.Event.Event, kind.Kind.Kind}, Declarations.count_of}
use Rattle.race_requests.specs.declared.request.Step.{Step}
use Rattle.race_hub.specs.{declared.recording.Mismatch.Mismatch, Part.IsPart, Hub.{HubState, end_of}, Logs.log_of}
use Rattle.race_hub.specs.Recording.{RecordingState}

-- what is recorded of the hub: its trace, the log of each goroutine, and what waits
pub record IsRecorded {R : Type 0} (h : HubState R) (r : RecordingState) : Type 0 where
  pub ended : end_of h ≡ Some r.end
  pub back : h.out ≡ []
  pub decls : r.decls ≡ h.decls
  pub events : r.events ≡ h.events
  pub count : length r.logs ≡ count_of Kind.Goroutine h.decls.declarations
  pub logs : r.logs ≡ h.logs
  pub waiting : r.waiting ≡ h.waiting

-- it is the least of these numbers
pub record IsLeast (g : ℕ) (numbers : List ℕ) : Type 0 where
  pub among : (i : ℕ) × (slice_get numbers i ≡ Some g)
  pub least : (i k : ℕ) → slice_get numbers i ≡ Some k → g ≤ k

-- g is the least goroutine whose log isn't its part of the events
pub record IsLeastOther (g : ℕ) (logs : List (List Step)) (events : List Event) : Type 0 where
  pub within : g < length logs
  pub other : IsPart g (log_of g logs) events → ⊥
  pub least : (k : ℕ) → k < g → IsPart k (log_of k logs) events

-- why there is no recording: the hub hasn't ended; a job is out; a log isn't its goroutine's part
abbrev pub IsMismatch : {R : Type 0} → HubState R → Mismatch → Type 0
IsMismatch h Mismatch.NotEnded = end_of h ≡ None
IsMismatch h (Mismatch.Out g) = IsSome (end_of h) × IsLeast g h.out
IsMismatch h (Mismatch.Log g) =
    IsSome (end_of h) × (h.out ≡ []) × (g < count_of Kind.Goroutine h.decls.declarations) × IsLeastOther g h.logs h.events
