-- What the fields of a `Hub` stand for, and what holds of them.
use Rattle.std.specs.{Prelude.{ℕ, ◌≡◌, ◌==◌, ◌<◌, ◌+◌, ◌≤◌, true, List, Bool, slice_get, Some, vec_len, vec_capacity}, List.count_by}
use Rattle.race_requests.specs.declared.request.Waiter.{Waiter}
use Rattle.race_hub.specs.{declared.fields.Fields.Fields, Hub.HubState, Holds.Holds}

-- the log of whoever waits has room for its step
abbrev pub HaveRoom : List Waiter → List Bool → Type 0
HaveRoom waiting have_room = (g : ℕ) → 0 < count_by (λ w. w.who == g) waiting → slice_get have_room g ≡ Some true

module _ {R A : Type 0} where
  abbrev pub hub_state : Fields R A → HubState R
  hub_state h = record {
    decls = h.trace.decls;
    events = h.trace.events;
    limit = h.limit;
    routines = h.routines.items;
    logs = h.logs.logs;
    ready = h.ready.items;
    waiting = h.waiting.items;
    out = h.out.items;
    bad = h.bad;
  }

  -- who is ready has its room among those that are out
  abbrev pub HubHolds : Fields R A → Type 0
  HubHolds h =
      Holds h.replay (hub_state h) × (vec_len h.ready + vec_len h.out ≤ vec_capacity h.out) × HaveRoom h.waiting.items h.logs.have_room
