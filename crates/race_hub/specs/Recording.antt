-- A recording: the trace of a run, what each goroutine asked and was told, what waits, and how the run ended. (Our own)
use Rattle.std.specs.Prelude.{ℕ, ◌≡◌, ◌==◌, not, true, List, length, filter, slice_get, Option, Some, None, IsSome}
use Rattle.std.specs.List.{find}
use Rattle.race_records.specs.{declared.event.Event.Event, Declarations.{DeclsState, capacity_of}}
use Rattle.race_hub.specs.{declared.ending.End.End, Part.IsPart, Hub.stop_by, Kept.is_active}
use Rattle.race_requests.specs.{declared.request.{Step.Step, Waiter.Waiter}, Choices.choices, Sound.is_bad_among}

-- a `Recording` as its callers see it: the logs by goroutine, and the requests that have no event, in the order in which they came
pub record RecordingState : Type 0 where
  pub decls : DeclsState
  pub events : List Event
  pub logs : List (List Step)
  pub waiting : List Waiter
  pub end : End

-- each log is its goroutine's part of the events
abbrev pub AreParts : List (List Step) → List Event → Type 0
AreParts logs events = (g : ℕ) (log : List Step) → slice_get logs g ≡ Some log → IsPart g log events

-- the requests of all but g
abbrev pub others_of : ℕ → List Waiter → List Waiter
others_of g waiting = filter (λ w. not (w.who == g)) waiting

-- g's request waits, and is bad beside those of the others
abbrev pub HasBadRequest : DeclsState → List Event → List Waiter → ℕ → Type 0
HasBadRequest decls events waiting g =
    (w : Waiter) × (find (λ w. w.who == g) waiting ≡ Some w) × (is_bad_among decls events (others_of g waiting) w ≡ true)

-- each goroutine that runs and hasn't failed waits
abbrev pub AllWait : List Event → List Waiter → Type 0
AllWait events waiting = (g : ℕ) → is_active g events ≡ true → IsSome (find (λ w. w.who == g) waiting)

-- the end is what stops the run, or else a deadlock: all wait, and there is no choice
abbrev pub IsEnd : DeclsState → List Event → List Waiter → Option End → End → Type 0
IsEnd decls events waiting (Some stop) end = end ≡ stop
IsEnd decls events waiting None end = (end ≡ End.Deadlock) × AllWait events waiting × (length (choices (capacity_of decls.declarations) events waiting) ≡ 0)

-- the end is what stops the run within this limit, or else a deadlock, where bad is nobody or a goroutine whose bad request waits
pub record HasEnded (limit : ℕ) (r : RecordingState) : Type 0 where
  pub bad : Option ℕ
  pub whose : (g : ℕ) → bad ≡ Some g → HasBadRequest r.decls r.events r.waiting g
  pub is_end : IsEnd r.decls r.events r.waiting (stop_by r.events limit bad) r.end
