-- The laws of stamps. Each is the contract of a function in src/laws.rt that does nothing. (The Go Memory Model, "Memory Model": happens before)
use Rattle.std.specs.Prelude.{ℕ, ◌≡◌, ◌<◌, ◌≤◌, ◌↔◌, List, Some, take}
use Rattle.race_records.specs.declared.event.Event.{Event}
use Rattle.race_model.specs.{Events.At, Order.HappensBefore}
use Rattle.race_clock.specs.{declared.stamp.Stamp.Stamp, ClockState.knows, Stamps.stamp_of, StandsFor.CountsReaching}

-- the stamp is that of an access among the events, and the clock is its goroutine's behind it, as `step` gives both
pub record IsStampIn (caps : ℕ → ℕ) (events : List Event) (stamp : Stamp) (clock : List ℕ) : Type 0 where
  pub event : Event
  pub stands : At events stamp.at event
  pub is : stamp_of (take stamp.at events) event ≡ Some stamp
  pub reaching : CountsReaching caps (take stamp.at events) event stamp.who clock

-- the clock knows the stamp's goroutine up to the stamp
abbrev pub IsKnown : Stamp → List ℕ → Type 0
IsKnown stamp clock = stamp.count ≤ knows clock stamp.who

-- of two stamped accesses a happens before b exactly where b's clock knows a
abbrev pub KnownIsHappensBefore : List Event → Type 0
KnownIsHappensBefore events =
    (caps : ℕ → ℕ) (a b : Stamp) (c d : List ℕ) → IsStampIn caps events a c → IsStampIn caps events b d
    → IsKnown a d ↔ HappensBefore caps events a.at b.at

-- the stamp of a later event has the greater index
abbrev pub IndexesRise : List Event → Type 0
IndexesRise events =
    (i j : ℕ) (e f : Event) (a b : Stamp) → At events i e → At events j f → i < j
    → stamp_of (take i events) e ≡ Some a → stamp_of (take j events) f ≡ Some b → a.at < b.at

-- a stamp is known to each later one of its goroutine
abbrev pub OwnIsKnown : List Event → Type 0
OwnIsKnown events =
    (caps : ℕ → ℕ) (a b : Stamp) (c d : List ℕ) → IsStampIn caps events a c → IsStampIn caps events b d
    → a.who ≡ b.who → a.at < b.at → IsKnown a d

-- and to no earlier one of any
abbrev pub LaterIsUnknown : List Event → Type 0
LaterIsUnknown events =
    (caps : ℕ → ℕ) (a b : Stamp) (c d : List ℕ) → IsStampIn caps events a c → IsStampIn caps events b d
    → a.at < b.at → ¬ IsKnown b c

-- what is known to a stamp is known to each to which that one is
abbrev pub KnownIsTransitive : List Event → Type 0
KnownIsTransitive events =
    (caps : ℕ → ℕ) (a b s : Stamp) (c d t : List ℕ) → IsStampIn caps events a c → IsStampIn caps events b d → IsStampIn caps events s t
    → IsKnown a d → IsKnown b t → IsKnown a t

-- so stamps are lawful
pub record StampsAreLawful (events : List Event) : Type 0 where
  pub rising : IndexesRise events
  pub own : OwnIsKnown events
  pub onward : LaterIsUnknown events
  pub transitive : KnownIsTransitive events
