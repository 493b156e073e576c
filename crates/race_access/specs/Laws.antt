-- The laws of touches. Each is the contract of a function in src/laws.rt that does nothing.
use Rattle.std.specs.Prelude.{ℕ, ◌≡◌, List, Option}
use Rattle.race_records.specs.declared.event.Event.{Event}
use Rattle.race_access.specs.{Touches.{Touch, IsLawful, IsReported}, StampsOf.{AreStampsOf, IsReportedOn}}

-- the touches that the events give of a variable are lawful
abbrev pub TouchesAreLawful : List Event → Type 0
TouchesAreLawful events = (caps : ℕ → ℕ) (x : ℕ) (touched : List Touch) → AreStampsOf caps events x touched → IsLawful touched

-- and the race that is reported of them is the one that is reported of the events
abbrev pub TouchesRaceAsEvents : List Event → Type 0
TouchesRaceAsEvents events =
    (caps : ℕ → ℕ) (x : ℕ) (touched : List Touch) → AreStampsOf caps events x touched
    → (race : Option (ℕ × ℕ)) → IsReported touched race → IsReportedOn caps events x race

-- of any touches one race is reported, or none
abbrev pub OneRaceIsReported : Type 0
OneRaceIsReported = (touched : List Touch) (race other : Option (ℕ × ℕ)) → IsReported touched race → IsReported touched other → race ≡ other
