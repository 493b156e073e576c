-- What a firing is to do, by the choice that is picked.
use Rattle.std.specs.Prelude.{ℕ, ◌≡◌, ◌≢◌, ◌<◌, ◌≤◌, ◌+◌, ◌-◌, List, length, slice_get, Option, Some, None, IsTrue, Bool, true}
use Rattle.race_records.specs.{declared.{event.Event.Event, trace.TheConstants.MAX_EVENTS}, Declarations.{DeclsState, capacity_of}, Events.fits}
use Rattle.race_legal.specs.ReplayState.{ReplayState, counts_in, IsInRange}
use Rattle.race_model.specs.Legal.{broken}
use Rattle.race_requests.specs.declared.{choice.Choice.Choice, request.{Answer.Answer, Waiter.Waiter}}
use Rattle.race_requests.specs.{Choices.event_of, Table.{IsRow, done_by}}
use Rattle.race_hub.specs.{declared.firing.Firing.Firing, Hub.HubState, Fires.{partner_of, IsPartnerRow, started_by}}
use Rattle.race_hub.specs.Fires.{HasRoutine}

-- who takes part in the choice's event, and what each is told
pub record HasRows (waiting : List Waiter) (t : Choice) (e : Event) (told partner_told : Option Answer) : Type 0 where
  pub w : Waiter
  pub asks : slice_get waiting t.place ≡ Some w
  pub row : IsRow w.asked.ask t.offer (done_by w.who e.op) told
  pub partner_row : IsPartnerRow (partner_of t waiting) (t.partner_offer - 1) e.op partner_told
  pub place : t.place < length waiting
  pub partner : t.partner ≤ length waiting
  pub apart : t.partner ≢ t.place + 1

-- the choice has such rows
pub record HasSomeRows (waiting : List Waiter) (t : Choice) (e : Event) : Type 0 where
  pub told : Option Answer
  pub partner_told : Option Answer
  pub rows : HasRows waiting t e told partner_told

-- the firing is what its choice says: its event is legal and fits, and it has all that it needs
pub record IsFiring {R : Type 0} (h : HubState R) (f : Firing) : Type 0 where
  pub rows : HasRows h.waiting f.choice f.event f.told f.partner
  pub makes : event_of h.events h.waiting f.choice ≡ Some f.event
  pub legal : broken (capacity_of h.decls.declarations) h.events f.event ≡ None
  pub fits : IsTrue (fits h.decls f.event)
  pub routine : HasRoutine h.routines (started_by f.event.op)

-- the event can be appended: it names what there is, and neither the replay nor the trace is full
pub record CanAppend (k : ReplayState) (decls : DeclsState) (past : List Event) (e : Event) : Type 0 where
  pub range : IsInRange (counts_in k) e
  pub room : k.len < MAX_EVENTS
  pub fits : IsTrue (fits decls e)
  pub few : length past < MAX_EVENTS

-- g has its place among the routines, and its log has room for a step
abbrev pub HasPlace : {R : Type 0} → ℕ → List (Option R) → List Bool → Type 0
HasPlace g routines rooms = (g < length routines) × (slice_get rooms g ≡ Some true)
