-- The hub: its state, the opening one, and when it has ended. (Our own; compare The Go Programming Language Specification, "Program execution")
use Rattle.std.specs.Prelude.{ℕ, ◌==◌, ◌-◌, ◌&&◌, if◌then◌else◌, Bool, false, List, [], ◌∷◌, length, map, slice_get}
use Rattle.std.specs.Prelude.{Option, Some, None}
use Rattle.race_records.specs.{declared.event.Event.Event, Declarations.{DeclsState, capacity_of}}
use Rattle.race_model.specs.Events.{is_exit, is_fault}
use Rattle.race_requests.specs.declared.{choice.Choice.Choice, request.{Answer.Answer, Step.Step, Waiter.Waiter}}
use Rattle.race_requests.specs.{Choices.choices, Waiting.WaitingState}
use Rattle.race_hub.specs.declared.ending.End.{End}

-- a `Hub` as its callers see it
pub record HubState (R : Type 0) : Type 0 where
  pub decls : DeclsState
  pub events : List Event
  -- how many events there may be
  pub limit : ℕ
  -- the routines by goroutine: None while its job is out, and once it left
  pub routines : List (Option R)
  -- the logs by goroutine
  pub logs : List (List Step)
  -- who is told what next, in order
  pub ready : List (ℕ × Answer)
  -- the requests that wait, in the order in which they came
  pub waiting : List Waiter
  -- whose job was taken and isn't back
  pub out : List ℕ
  -- whose request was bad
  pub bad : Option ℕ

-- before the first event: main is ready, and nobody else was started
abbrev pub opening : {R : Type 0} → DeclsState → ℕ → R → List R → HubState R
opening decls limit main others = record {
  decls = decls;
  events = [];
  limit = limit;
  routines = map Some (main ∷ others);
  logs = map (λ _. []) (main ∷ others);
  ready = (0, Answer.Begin) ∷ [];
  waiting = [];
  out = [];
  bad = None;
}

-- where the run stands, and what waits
abbrev pub list_of : {R : Type 0} → HubState R → WaitingState
list_of h = record { declarations = h.decls.declarations; past = h.events; waiting = h.waiting }

-- the choices that the hub has
abbrev pub choices_of : {R : Type 0} → HubState R → List Choice
choices_of h = choices (capacity_of h.decls.declarations) h.events h.waiting

-- the last event
abbrev pub last_event : List Event → Option Event
last_event events = slice_get events (length events - 1)

-- the last event is such a one
abbrev pub is_last : (Event → Bool) → List Event → Bool
is_last test events = elim (last_event events) [ None ↦ false | Some e ↦ test e ]

-- main returned
abbrev pub is_main_exit : Event → Bool
is_main_exit e = is_exit e.op && (e.who == 0)

-- what stops a run of so many events at most in which this goroutine's request was bad, if any: the first that holds
unfoldable pub stop_by : List Event → ℕ → Option ℕ → Option End
stop_by events limit bad =
    if is_last is_main_exit events then Some End.Main
    else (if is_last (λ e. is_fault e.op) events then Some End.Fault
    else elim bad [
      | Some g ↦ Some (End.Bad g)
      | None ↦ if length events == limit then Some End.Limit else None
    ])

-- what stops the hub, whoever is ready and whatever waits
abbrev pub stop_of : {R : Type 0} → HubState R → Option End
stop_of h = stop_by h.events h.limit h.bad

-- every running goroutine waits, and there is no choice
abbrev pub is_deadlock : {R : Type 0} → HubState R → Bool
is_deadlock h = (length h.ready == 0) && ((length h.out == 0) && (length (choices_of h) == 0))

-- the end: what stops the hub, or else a deadlock
abbrev pub end_of : {R : Type 0} → HubState R → Option End
end_of h = elim (stop_of h) [ Some e ↦ Some e | None ↦ if is_deadlock h then Some End.Deadlock else None ]
