-- What a certificate is.
use Rattle.std.specs.Prelude.{ℕ, ◌≡◌, ◌<◌, ◌≤◌, ◌+◌, ◌⊎◌, List, length, take, slice_get, Some}
use Rattle.race_records.specs.{declared.{event.Event.Event, trace.TheConstants.MAX_EVENTS}, Events.TraceState}
use Rattle.race_model.specs.{Events.At, Predict.{told, CouldHaveRun, EndsWithRace, IsPrediction}}
use Rattle.race_verdict.specs.{declared.races.Race.Race, Traces.capacities}
use Rattle.race_predict.specs.{declared.prediction.Prediction.Prediction, Fronts.IsNext}

-- event k of the other list is the recorded event whose index stands at k, but for what a read finds; and each that takes part in it did it next
pub record IsMadeOf (recorded : List Event) (order : List ℕ) (other : List Event) : Type 0 where
  pub as_many : length other ≡ length order
  pub each : (k i : ℕ) → slice_get order k ≡ Some i → (e : Event) × At recorded i e × ((v : ℕ) × At other k (told v e))
  pub in_turn : (k i : ℕ) (e : Event) → slice_get order k ≡ Some i → At recorded i e → IsNext recorded (take k other) i e

-- the first n events of the other list find what was recorded
abbrev pub AreKept : List Event → List ℕ → List Event → ℕ → Type 0
AreKept recorded order other n = (k i : ℕ) (e : Event) → k < n → slice_get order k ≡ Some i → At recorded i e → At other k e

-- the trace is a run that the recorded goroutines could have had, and ends with a race on x; a judge takes it. It is made of the recorded events of
-- these indexes, and only its last two may find other values
pub record IsRunWithRace (recorded : TraceState) (x : ℕ) (order : List ℕ) (trace : TraceState) : Type 0 where
  pub decls : trace.decls ≡ recorded.decls
  pub could_have_run : CouldHaveRun (capacities recorded) recorded.events trace.events
  pub ends_with_race : EndsWithRace trace.events x
  pub made : IsMadeOf recorded.events order trace.events
  pub kept : AreKept recorded.events order trace.events ends_with_race.before
  pub limited : length trace.events ≤ MAX_EVENTS

-- the trace shows the prediction: such a run, where the recorded one has no race on x
pub record IsCertificate (recorded : TraceState) (x : ℕ) (order : List ℕ) (trace : TraceState) : Type 0 where
  pub decls : trace.decls ≡ recorded.decls
  pub prediction : IsPrediction (capacities recorded) recorded.events x trace.events
  pub made : IsMadeOf recorded.events order trace.events
  pub kept : AreKept recorded.events order trace.events prediction.ends_with_race.before
  pub limited : length trace.events ≤ MAX_EVENTS

-- no trace shows it
abbrev pub HasNoCertificate : TraceState → ℕ → List ℕ → Type 0
HasNoCertificate recorded x order = (other : TraceState) → ¬ IsCertificate recorded x order other

-- the prediction has a certificate
abbrev pub IsPredicted : {A : Type 0} → TraceState → Prediction A → Type 0
IsPredicted recorded p = (trace : TraceState) × IsCertificate recorded p.var p.order.items trace

-- the recorded events that the order ends with are these two, in one order or the other
abbrev pub EndsInPair : List ℕ → ℕ → ℕ → ℕ → Type 0
EndsInPair order before i j =
    ((slice_get order before ≡ Some i) × (slice_get order (before + 1) ≡ Some j))
    ⊎ ((slice_get order before ≡ Some j) × (slice_get order (before + 1) ≡ Some i))

-- another run that the recorded goroutines could have had, made of the recorded events of this order, ends with the two accesses of the
-- race, and in the recorded one no two accesses of the variable race
pub record IsPredictedRace (recorded : TraceState) (race : Race) : Type 0 where
  pub order : List ℕ
  pub other : TraceState
  pub certificate : IsCertificate recorded race.var order other
  pub before : ℕ
  pub last_two : length order ≡ before + 2
  pub pair : EndsInPair order before race.first race.second
