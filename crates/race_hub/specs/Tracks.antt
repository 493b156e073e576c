-- How far a trace has come along the logs of its goroutines.
use Rattle.std.specs.Prelude.{ℕ, ◌≡◌, ◌<◌, ◌≤◌, ◌==◌, ◌&&◌, not, if◌then◌else◌, Bool, true, false, List, [], ◌∷◌, ◌++◌}
use Rattle.std.specs.Prelude.{length, slice_get, Option, Some, None}
use Rattle.race_records.specs.declared.event.{Event.Event, Op.TheVariants.Meet}
use Rattle.race_model.specs.Events.{takes_part, starts, gives}
use Rattle.race_requests.specs.{declared.request.Step.Step, Table.Fits}
use Rattle.race_hub.specs.Part.{part_of, IsPart}

-- a `Track` as its callers see it: a log, whether it has room for a step more, and how many of its steps the events so far have,
-- None where they aren't its first
pub record TrackState : Type 0 where
  pub log : List Step
  pub has_room : Bool
  pub passed : Option ℕ

-- the log has a step for each event of g's part, in order, and each fits
pub record HasPart (g : ℕ) (log : List Step) (events : List Event) : Type 0 where
  pub enough : length (part_of g events) ≤ length log
  pub each : (k : ℕ) (s : Step) (e : Event) → slice_get log k ≡ Some s → slice_get (part_of g events) k ≡ Some e → Fits g s e

-- so many steps of g's log are its part of the events; None where the log hasn't that part
abbrev pub IsPassed : ℕ → List Step → List Event → Option ℕ → Type 0
IsPassed g log events (Some n) = (n ≡ length (part_of g events)) × HasPart g log events
IsPassed g log events None = HasPart g log events → ⊥

abbrev pub IsTracked : ℕ → List Event → TrackState → Type 0
IsTracked g events t = IsPassed g t.log events t.passed

-- the event stands in g's part
abbrev pub is_in_part : ℕ → Event → Bool
is_in_part g e = takes_part g e && not (starts g e.op)

-- who does the event, but for who starts itself
abbrev pub asker_of : Event → Option ℕ
asker_of e = if starts e.who e.op then None else Some e.who

-- the other goroutine that receives in a meet
abbrev pub receiver_of : Event → Option ℕ
receiver_of e = elim e.op [ Meet r c v ↦ if r == e.who then None else Some r | _ ↦ None ]

-- the logs stay, and each track that was right before the events is right behind them
pub record HavePassed (events : List Event) (old new : List TrackState) : Type 0 where
  pub count : length new ≡ length old
  pub each : (g : ℕ) (t : TrackState) → slice_get old g ≡ Some t
      → (u : TrackState) × (slice_get new g ≡ Some u) × (u.log ≡ t.log) × ((past : List Event) → IsTracked g past t → IsTracked g (past ++ events) u)

-- so it is of that goroutine, and the other tracks stay
pub record OneHasPassed (who : Option ℕ) (e : Event) (old new : List TrackState) : Type 0 where
  pub count : length new ≡ length old
  pub each : (g : ℕ) (t : TrackState) → slice_get old g ≡ Some t
      → (u : TrackState) × (slice_get new g ≡ Some u) × (u.log ≡ t.log)
      × (gives who g ≡ true → (past : List Event) → IsTracked g past t → IsTracked g (past ++ e ∷ []) u) × (gives who g ≡ false → u ≡ t)

-- all steps of the log are passed
abbrev pub is_through : TrackState → Bool
is_through t = elim t.passed [ Some n ↦ n == length t.log | None ↦ false ]

-- the least goroutine whose log isn't its part of the events, if there is one
abbrev pub IsFirstOther : List TrackState → List Event → Option ℕ → Type 0
IsFirstOther tracks events None = (g : ℕ) (t : TrackState) → slice_get tracks g ≡ Some t → IsPart g t.log events
IsFirstOther tracks events (Some g) =
    ((t : TrackState) × (slice_get tracks g ≡ Some t) × (IsPart g t.log events → ⊥))
    × ((k : ℕ) (t : TrackState) → k < g → slice_get tracks k ≡ Some t → IsPart k t.log events)
