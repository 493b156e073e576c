-- Small waiting lists whose choices, events and answers are computed. (The Go Programming Language Specification, "Send
-- statements", "Receive operator",
-- "Close", "Select statements"; package sync)
use Rattle.std.specs.Prelude.{ℕ, ◌≡◌, ◌+◌, Bool, true, false, List, [], ◌∷◌, Option, Some, None}
use Rattle.race_records.specs.declared.{cases.{Case.Case, Dir.Dir}, event.{Event.Event, Op.Op}}
use Rattle.race_records.specs.declared.{event.Op.TheVariants.{Go, Meet}, kind.Object.Object, version.Version.Version}
use Rattle.race_records.specs.Declarations.{DeclsState}
use Rattle.race_model.specs.Examples.{does}
use Rattle.race_requests.specs.{declared.request.{Answer.Answer, Ask.Ask, Offer.Offer, Waiter.Waiter}, Table.IsRow}
use Rattle.race_requests.specs.{Choices.{choice, choices, event_of}, Sound.is_sound}

-- as many values fit into a channel as its number says: channel 0 is unbuffered
abbrev pub capacities : ℕ → ℕ
capacities c = c

-- goroutine g asks, at a place of its own
abbrev pub waits : ℕ → Ask → Waiter
waits g ask = record { who = g; asked = record { ask = ask; place = g + 5 } }

-- main, goroutine 0, asks and nobody else
abbrev pub alone : Ask → List Waiter
alone ask = waits 0 ask ∷ []

-- after the events past the ask of main alone has the one choice, its branch k; it makes the operation, and main is told that
pub record HasBranch (past : List Event) (ask : Ask) (k : ℕ) (op : Op) (told : Option Answer) : Type 0 where
  pub only : choices capacities past (alone ask) ≡ choice 0 k 0 0 ∷ []
  pub event : event_of past (alone ask) (choice 0 k 0 0) ≡ Some (record { who = 0; op = op; place = 5; place2 = None })
  pub row : IsRow ask k op told

-- so it has by the one branch of an ask that is no select and no try
abbrev pub HasRow : List Event → Ask → Op → Option Answer → Type 0
HasRow past ask op told = HasBranch past ask 0 op told

-- after the events past it has no choice
abbrev pub Stays : List Event → Ask → Type 0
Stays past ask = choices capacities past (alone ask) ≡ []

-- after the events past the try of main alone has two choices, the lock first: by that one it makes the operation and is told that the lock was taken,
-- and by the other it fails
pub record HasBothBranches (past : List Event) (ask : Ask) (taken missed : Op) : Type 0 where
  pub both : choices capacities past (alone ask) ≡ choice 0 0 0 0 ∷ choice 0 1 0 0 ∷ []
  pub taken_event : event_of past (alone ask) (choice 0 0 0 0) ≡ Some (record { who = 0; op = taken; place = 5; place2 = None })
  pub taken_row : IsRow ask 0 taken (Some (Answer.Tried true))
  pub missed_event : event_of past (alone ask) (choice 0 1 0 0) ≡ Some (record { who = 0; op = missed; place = 5; place2 = None })
  pub missed_row : IsRow ask 1 missed (Some (Answer.Tried false))

-- it has the failure alone
abbrev pub FailsAlone : List Event → Ask → Op → Type 0
FailsAlone past ask missed = HasBranch past ask 1 missed (Some (Answer.Tried false))

-- mutex 0 and rwmutex 1, and as many places as main's request needs
abbrev pub two_locks : Version → DeclsState
two_locks version = record {
  version = version;
  declarations = record { name = 108 ∷ []; object = Object.Lock false } ∷ record { name = 109 ∷ []; object = Object.Lock true } ∷ [];
  places = (97 ∷ []) ∷ (98 ∷ []) ∷ (99 ∷ []) ∷ (100 ∷ []) ∷ (101 ∷ []) ∷ (102 ∷ []) ∷ [];
}

-- main's request is sound in a hub of that version with these locks
abbrev pub is_sound_in : Version → Ask → Bool
is_sound_in version ask = is_sound (two_locks version) (waits 0 ask)

-- main started three goroutines
abbrev pub three_started : List Event
three_started = does 0 (Go 1) ∷ does 0 (Go 2) ∷ does 0 (Go 3) ∷ []

-- goroutine 1 sends 7 to main
abbrev pub one_meets_main : Event
one_meets_main = record { who = 1; op = Meet 0 0 7; place = 6; place2 = Some 5 }

-- main would send 5 or receive, and goroutine 1 would receive or send 7, all on channel 0
abbrev pub sends_or_receives : Ask
sends_or_receives = Ask.Select (Offer.Send (Some 0) 5 ∷ Offer.Recv (Some 0) ∷ []) false

abbrev pub receives_or_sends : Ask
receives_or_sends = Ask.Select (Offer.Recv (Some 0) ∷ Offer.Send (Some 0) 7 ∷ []) false

-- the cases of a send and of a receive
abbrev pub sends_on : Option ℕ → Case
sends_on c = record { dir = Dir.Send; chan = c }

abbrev pub receives_from : Option ℕ → Case
receives_from c = record { dir = Dir.Recv; chan = c }
