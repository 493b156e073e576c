-- A goroutine's part of a trace, and its log. (Our own. The Go Memory Model, "Memory Model", speaks of each goroutine's execution: the operations that this
-- goroutine executes)
use Rattle.std.specs.Prelude.{ℕ, ◌≡◌, ◌&&◌, not, List, filter, length, slice_get, Some}
use Rattle.race_records.specs.declared.event.Event.{Event}
use Rattle.race_model.specs.Events.{takes_part, starts}
use Rattle.race_requests.specs.{declared.request.Step.Step, Table.Fits}

-- the events in which g takes part, its own start left out
abbrev pub part_of : ℕ → List Event → List Event
part_of g events = filter (λ e. takes_part g e && not (starts g e.op)) events

-- the log is g's part: one step for each event, in order, and each fits
pub record IsPart (g : ℕ) (log : List Step) (events : List Event) : Type 0 where
  pub as_many : length log ≡ length (part_of g events)
  pub each : (k : ℕ) (s : Step) (e : Event) → slice_get log k ≡ Some s → slice_get (part_of g events) k ≡ Some e → Fits g s e
