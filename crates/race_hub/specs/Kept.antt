-- The states that a hub keeps to. (Our own)
use Rattle.std.specs.Prelude.{ℕ, ◌≡◌, ◌==◌, ◌<◌, ◌≤◌, ◌+◌, ◌&&◌, ◌||◌, not, nat_lt, cond, Bool, false, List, length, count_by}
use Rattle.std.specs.Prelude.{slice_get, Option, Some, None, is_some}
use Rattle.race_records.specs.{declared.event.Event.Event, Declarations.capacity_of}
use Rattle.race_model.specs.{Events.{is_fault, has_exited}, State.runs, Legal.IsLegal}
use Rattle.race_hub.specs.Hub.{HubState}

-- g failed
abbrev pub has_failed : ℕ → List Event → Bool
has_failed g events = nat_lt 0 (count_by (λ e. (e.who == g) && is_fault e.op) events)

-- g runs and hasn't failed
abbrev pub is_active : ℕ → List Event → Bool
is_active g events = runs g events && not (has_failed g events)

-- how often g stands among those that are ready, that wait, and whose job is out
abbrev pub standing : {R : Type 0} → HubState R → ℕ → ℕ
standing h g = count_by (λ r. r.0 == g) h.ready + count_by (λ w. w.who == g) h.waiting + count_by (λ o. o == g) h.out

-- who is active stands in exactly one of the lists, and once, and nobody else does
abbrev pub StandOnce : {R : Type 0} → HubState R → Type 0
StandOnce h = (g : ℕ) → standing h g ≡ cond (is_active g h.events) 1 0

-- g exited or failed
abbrev pub has_left : ℕ → List Event → Bool
has_left g events = has_exited g events || has_failed g events

-- g's routine is in its place
abbrev pub has_routine : {R : Type 0} → ℕ → List (Option R) → Bool
has_routine g routines = elim (slice_get routines g) [ None ↦ false | Some routine ↦ is_some routine ]

-- of each goroutine one holds: its routine is in its place, its job is out, or it left
abbrev pub HaveRoutines : {R : Type 0} → HubState R → Type 0
HaveRoutines h =
    (g : ℕ) → g < length h.routines
    → cond (has_routine g h.routines) 1 0 + count_by (λ o. o == g) h.out + cond (has_left g h.events) 1 0 ≡ 1

-- who stands in a list has a place
abbrev pub HavePlaces : {R : Type 0} → HubState R → Type 0
HavePlaces h = (g : ℕ) → 0 < standing h g → g < length h.routines

-- a kept state: the trace is legal and within the limit, and each goroutine stands where it has to, with its routine and its log
pub record IsKept {R : Type 0} (h : HubState R) : Type 0 where
  pub legal : IsLegal (capacity_of h.decls.declarations) h.events
  pub limited : length h.events ≤ h.limit
  pub once : StandOnce h
  pub routines : HaveRoutines h
  pub places : HavePlaces h
  pub logs : length h.logs ≡ length h.routines
