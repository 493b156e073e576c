-- Small hubs, and what one firing makes of each. (The Go Programming Language Specification, "Go statements", "Send statements", "Receive operator")
use Rattle.std.specs.Prelude.{ℕ, ◌≡◌, List, [], ◌∷◌, Option, Some, None}
use Rattle.race_records.specs.declared.{event.{Event.Event, Op.TheVariants.{Go, Meet}}, kind.Object.Object}
use Rattle.race_records.specs.{declared.version.Version.Version, Declarations.DeclsState}
use Rattle.race_requests.specs.{declared.request.{Answer.Answer, Ask.Ask, Step.Step, Waiter.Waiter}, Rows.waits}
use Rattle.race_hub.specs.{Hub.{HubState, opening}, Fires.IsFired, Kept.IsKept}

-- goroutine w, an unbuffered channel c and a place p
abbrev pub w_and_c : DeclsState
w_and_c = record {
  version = Version.One;
  declarations = record { name = 119 ∷ []; object = Object.Goroutine } ∷ record { name = 99 ∷ []; object = Object.Chan 0 } ∷ [];
  places = (112 ∷ []) ∷ [];
}

-- a hub with a limit of 5 events, and nobody out
abbrev pub hub_of : List Event → List (Option ℕ) → List (List Step) → List (ℕ × Answer) → List Waiter → HubState ℕ
hub_of events routines logs ready waiting = record {
  decls = w_and_c;
  events = events;
  limit = 5;
  routines = routines;
  logs = logs;
  ready = ready;
  waiting = waiting;
  out = [];
  bad = None;
}

-- the routines of main and w
abbrev pub both : List (Option ℕ)
both = Some 10 ∷ Some 11 ∷ []

-- g's log with its first request and the answer
abbrev pub told_first : ℕ → Ask → Answer → List Step
told_first g ask answer = record { asked = (waits g ask).asked; told = Some answer } ∷ []

-- main asks to start w
abbrev pub before_go : HubState ℕ
before_go = hub_of [] both ([] ∷ [] ∷ []) [] (waits 0 (Ask.Go 1) ∷ [])

abbrev pub went : Event
went = record { who = 0; op = Go 1; place = 5; place2 = None }

-- both are ready, main first
abbrev pub after_go : HubState ℕ
after_go = hub_of (went ∷ []) both (told_first 0 (Ask.Go 1) Answer.Unit ∷ [] ∷ []) ((0, Answer.Unit) ∷ (1, Answer.Begin) ∷ []) []

-- w waits for a value, and then main sends one
abbrev pub before_meet : HubState ℕ
before_meet = hub_of (went ∷ []) both ([] ∷ [] ∷ []) [] (waits 1 (Ask.Recv (Some 0)) ∷ waits 0 (Ask.Send (Some 0) 9) ∷ [])

abbrev pub met : Event
met = record { who = 0; op = Meet 1 0 9; place = 5; place2 = Some 6 }

-- both are ready, the sender first
abbrev pub after_meet : HubState ℕ
after_meet =
    hub_of (went ∷ met ∷ []) both
    (told_first 0 (Ask.Send (Some 0) 9) Answer.Unit ∷ told_first 1 (Ask.Recv (Some 0)) (Answer.Value 9) ∷ [])
    ((0, Answer.Unit) ∷ (1, Answer.Value 9) ∷ []) []

-- the start is fired by pick 4, and would be by any other, since there is one choice; so is the meet by pick 3
abbrev pub AGoIsFired : Type 0
AGoIsFired = IsFired 4 before_go after_go

abbrev pub AMeetIsFired : Type 0
AMeetIsFired = IsFired 3 before_meet after_meet

-- w is ready before main
abbrev pub after_go_the_new_one_first : HubState ℕ
after_go_the_new_one_first =
    hub_of (went ∷ []) both (told_first 0 (Ask.Go 1) Answer.Unit ∷ [] ∷ []) ((1, Answer.Begin) ∷ (0, Answer.Unit) ∷ []) []

abbrev pub AStarterIsReadyFirst : Type 0
AStarterIsReadyFirst = IsFired 4 before_go after_go_the_new_one_first → ⊥

-- no event is made
abbrev pub AFiringIsAnEvent : Type 0 → Type 0
AFiringIsAnEvent R = (pick : ℕ) (h new : HubState R) → new.events ≡ h.events → IsFired pick h new → ⊥

-- the first state is kept
abbrev pub OpeningIsKept : Type 0 → Type 0
OpeningIsKept R = (decls : DeclsState) (limit : ℕ) (main : R) (others : List R) → IsKept (opening decls limit main others)
