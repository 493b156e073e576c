-- What a firing does to the hub. (The Go Programming Language Specification, "Go statements", "Send statements",
-- "Receive operator", "Run-time panics")
use Rattle.std.specs.Prelude.{ℕ, ◌≡◌, ◌==◌, ◌-◌, nat_lt, if◌then◌else◌, Bool, false, List, [], ◌∷◌, ◌++◌, remove}
use Rattle.std.specs.Prelude.{slice_get, slice_set, Option, Some, None}
use Rattle.race_records.specs.{declared.event.{Event.Event, Op.{Op, TheVariants.Go}}, Declarations.capacity_of}
use Rattle.race_model.specs.Legal.{broken}
use Rattle.race_requests.specs.declared.{choice.Choice.Choice, request.{Answer.Answer, Waiter.Waiter}}
use Rattle.race_requests.specs.{Choices.event_of, Search.picked, Table.{IsRow, done_by}}
use Rattle.race_hub.specs.{Hub.{HubState, choices_of, end_of}, Logs.with_step}

-- g is who waited
abbrev pub is_asker : ℕ → Option Waiter → Bool
is_asker g None = false
is_asker g (Some w) = w.who == g

-- who goes on with an answer: nobody that is told nothing
abbrev pub goes_on : Option Waiter → Option Answer → List (ℕ × Answer)
goes_on (Some w) (Some answer) = (w.who, answer) ∷ []
goes_on _ _ = []

-- the routines without that of who is told nothing
abbrev pub without_leaver : {R : Type 0} → Option Waiter → Option Answer → List (Option R) → List (Option R)
without_leaver (Some w) None routines = slice_set routines w.who None
without_leaver _ _ routines = routines

-- what the list holds at the partner's place, where the choice has a partner
abbrev pub partner_of : {X : Type 0} → Choice → List X → Option X
partner_of t xs = if t.partner == 0 then None else slice_get xs (t.partner - 1)

-- the partner does its part of the operation by that branch, and is told that; without a partner nobody is
abbrev pub IsPartnerRow : Option Waiter → ℕ → Op → Option Answer → Type 0
IsPartnerRow (Some w) branch op told = ((answer : Answer) × (told ≡ Some answer)) × IsRow w.asked.ask branch (done_by w.who op) told
IsPartnerRow None branch op told = told ≡ None

-- the list without what stands at the choice's places
abbrev pub without : {X : Type 0} → Choice → List X → List X
without t xs =
    if t.partner == 0 then remove xs t.place
    else (if nat_lt t.place (t.partner - 1) then remove (remove xs (t.partner - 1)) t.place
    else remove (remove xs t.place) (t.partner - 1))

-- whom the operation starts
abbrev pub started_by : Op → Option ℕ
started_by (Go h) = Some h
started_by _ = None

-- who begins, where one is started
abbrev pub begins : Option ℕ → List (ℕ × Answer)
begins (Some g) = (g, Answer.Begin) ∷ []
begins None = []

-- the routine of who is started, if anyone is, is in its place
abbrev pub HasRoutine : {R : Type 0} → List (Option R) → Option ℕ → Type 0
HasRoutine {R} routines (Some g) = (routine : R) × (slice_get routines g ≡ Some (Some routine))
HasRoutine routines None = Unit {0}

-- the choice is performed: one legal event, the steps of who takes part, and who becomes ready in order: who asked, its partner, whom it started
pub record Fires {R : Type 0} (old : HubState R) (t : Choice) (new : HubState R) : Type 0 where
  pub w : Waiter
  pub e : Event
  -- what who asked is told, and what its partner is
  pub told : Option Answer
  pub partner_told : Option Answer
  pub asks : slice_get old.waiting t.place ≡ Some w
  pub makes : event_of old.events old.waiting t ≡ Some e
  pub legal : broken (capacity_of old.decls.declarations) old.events e ≡ None
  pub row : IsRow w.asked.ask t.offer (done_by w.who e.op) told
  pub partner_row : IsPartnerRow (partner_of t old.waiting) (t.partner_offer - 1) e.op partner_told
  pub routine : HasRoutine old.routines (started_by e.op)
  pub events : new.events ≡ old.events ++ e ∷ []
  pub waiting : new.waiting ≡ without t old.waiting
  pub ready : new.ready ≡ old.ready ++ goes_on (Some w) told ++ goes_on (partner_of t old.waiting) partner_told ++ begins (started_by e.op)
  -- who asked and is told nothing leaves
  pub routines : new.routines ≡ without_leaver (Some w) told old.routines
  pub logs : new.logs ≡ with_step (partner_of t old.waiting) partner_told (with_step (Some w) told old.logs)
  pub same : (new.decls ≡ old.decls) × (new.limit ≡ old.limit) × (new.out ≡ old.out) × (new.bad ≡ old.bad)

-- the choice of that pick is performed, and the hub hadn't ended
pub record IsFired {R : Type 0} (pick : ℕ) (old new : HubState R) : Type 0 where
  pub t : Choice
  pub running : end_of old ≡ None
  pub chosen : picked pick (choices_of old) ≡ Some t
  pub fires : Fires old t new
