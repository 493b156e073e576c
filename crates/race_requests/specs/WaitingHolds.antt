-- What holds of every `WaitingList`.
use Rattle.std.specs.Prelude.{◌≤◌, List, length, IsTrue, All}
use Rattle.race_records.specs.{declared.{event.Event.Event, kind.TheConstants.MAX_GOROUTINES}, Declarations.Declaration}
use Rattle.race_legal.specs.{ReplayState.ReplayState, StandsFor.StandsFor}
use Rattle.race_requests.specs.{declared.request.Waiter.Waiter, Receivers.{Spans, AreInSpans}, Waiting.is_declared}

-- the replay stands for the events so far, all that the requests name is declared, they aren't too many, and who receives
-- from a channel stands in its span
pub record WaitingHolds (declarations : List Declaration) (replay : ReplayState) (past : List Event) (waiting : List Waiter) (spans : Spans) : Type 0 where
  pub stands : StandsFor declarations replay past
  pub declared : All (λ w. IsTrue (is_declared declarations w)) waiting
  pub few : length waiting ≤ MAX_GOROUTINES
  pub spanned : AreInSpans waiting spans
