-- The touches of a variable that a list of events gives. (The Go Memory Model, "Memory Model": data race)
use Rattle.std.specs.{Prelude.{ℕ, ◌≡◌, ◌<◌, List, Option, Some, None, slice_get}, List.Contains}
use Rattle.race_records.specs.declared.event.Event.{Event}
use Rattle.race_model.specs.{Events.At, Race.{IsAccessOf, IsRace, IsReportedRace}}
use Rattle.race_clock.specs.Laws.{IsStampIn}
use Rattle.race_access.specs.Touches.{Touch, IsAt}

-- the touches are the accesses of x among the events, in order, each with its stamp, its place and its clock
pub record AreStampsOf (caps : ℕ → ℕ) (events : List Event) (x : ℕ) (touched : List Touch) : Type 0 where
  pub rising : (k m : ℕ) (a b : Touch) → k < m → slice_get touched k ≡ Some a → slice_get touched m ≡ Some b → a.stamp.at < b.stamp.at
  pub each : (a : Touch) → Contains touched a → IsStampIn caps events a.stamp a.clock × (a.stamp.var ≡ x)
  pub places : (a : Touch) → Contains touched a → (e : Event) → At events a.stamp.at e → e.place ≡ a.place
  pub every : (i : ℕ) → IsAccessOf events x i → (a : Touch) × IsAt touched i a

-- the race on x that is reported of the events, where it has one
abbrev pub IsReportedOn : (ℕ → ℕ) → List Event → ℕ → Option (ℕ × ℕ) → Type 0
IsReportedOn caps events x None = (i j : ℕ) → ¬ IsRace caps events x i j
IsReportedOn caps events x (Some (i, j)) = IsReportedRace caps events x i j
