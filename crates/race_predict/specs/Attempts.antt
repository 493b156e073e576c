-- A run that is put together event by event.
use Rattle.std.specs.Prelude.{ℕ, ◌≡◌, [], ◌∷◌, ◌++◌, IsTrue, List, length, take, slice_get, filter_map, Some, None}
use Rattle.race_records.specs.{declared.{event.Event.Event, kind.Kind.Kind}, Declarations.{Declaration, counts_of, capacity_of}, Events.{TraceState, fits}}
use Rattle.race_model.specs.{Events.At, Legal.broken, Predict.{execution_of}}
use Rattle.race_legal.specs.{ReplayState.ReplayState, StandsFor.StandsFor}
use Rattle.race_verdict.specs.Traces.{capacities}
use Rattle.race_predict.specs.{declared.attempt.LastTwo.LastTwo, Fronts.{Counts, IsFront, IsNext}, Certified.{IsMadeOf, AreKept}}

-- the recorded events of these indexes
abbrev pub events_by : List Event → List ℕ → List Event
events_by recorded order = filter_map (slice_get recorded) order

-- an `Attempt` as its callers see it: the events so far as a replay, and of each goroutine how many events there are
pub record AttemptState : Type 0 where
  pub replay : ReplayState
  pub taken : List ℕ

-- the events so far are the recorded ones of these indexes; they are a legal list, and of each goroutine they are the first that it did
pub record IsAttempt (recorded : TraceState) (order : List ℕ) (a : AttemptState) : Type 0 where
  pub stands : StandsFor recorded.decls.declarations a.replay (events_by recorded.events order)
  pub rows : length a.taken ≡ counts_of recorded.decls.declarations Kind.Goroutine
  pub counts : Counts a.taken (events_by recorded.events order)
  pub fronts : (g : ℕ) → IsFront (execution_of g (events_by recorded.events order)) (execution_of g recorded.events)
  pub made : IsMadeOf recorded.events order (events_by recorded.events order)
  pub kept : AreKept recorded.events order (events_by recorded.events order) (length order)

-- the recorded event at index i is what each that takes part in it did next after those of these indexes
pub record IsNextAt (recorded : TraceState) (order : List ℕ) (i : ℕ) : Type 0 where
  pub e : Event
  pub event : At recorded.events i e
  pub next : IsNext recorded.events (events_by recorded.events order) i e

-- it is this event, which fits, whatever the order of those so far is
pub record IsFound (recorded : TraceState) (a : AttemptState) (i : ℕ) (e : Event) : Type 0 where
  pub event : At recorded.events i e
  pub fit : IsTrue (fits recorded.decls e)
  pub next : (order : List ℕ) → IsAttempt recorded order a → IsNext recorded.events (events_by recorded.events order) i e

-- the recorded event whose index stands at k can come after those before it: it is next, and breaks no rule
pub record CanComeNext (recorded : TraceState) (order : List ℕ) (k : ℕ) : Type 0 where
  pub i : ℕ
  pub index : slice_get order k ≡ Some i
  pub found : IsNextAt recorded (take k order) i
  pub legal : broken (capacities recorded) (events_by recorded.events (take k order)) found.e ≡ None

-- it holds of each list for which the replay stands, with the channels' capacities
abbrev pub ForEachLegal : ReplayState → ((ℕ → ℕ) → List Event → Type 0) → Type 0
ForEachLegal k Holds = (declarations : List Declaration) (past : List Event) → StandsFor declarations k past → Holds (capacity_of declarations) past

-- the recorded events of these indexes, and two more
abbrev pub run_with : TraceState → List ℕ → LastTwo → TraceState
run_with recorded order last = record {
  decls = recorded.decls;
  events = (events_by recorded.events order ++ last.first ∷ []) ++ last.second ∷ [];
  spare = 0;
}
