-- The verdict on a list of events: illegal, clean, or its races. (The Go Memory Model, "Implementation Restrictions for
-- Programs Containing Data Races": report the race)
use Rattle.std.specs.Prelude.{ℕ, ◌≡◌, ◌≢◌, ◌<◌, List, [], Some, slice_get}
use Rattle.race_records.specs.declared.event.Event.{Event}
use Rattle.race_model.specs.{Legal.{IsLegal, IsIllegalAt}, Race.{IsRace, IsDataRaceFree, IsReportedRace}}

-- two accesses of variable var, by their indexes
pub record Race : Type 0 where
  pub var : ℕ
  pub first : ℕ
  pub second : ℕ

-- what can be said of a list of events
pub data Verdict : Type 0 where
  -- the event at this index is the first that breaks a rule, and this rule is the least that it breaks
  Illegal : (index rule : ℕ) → Verdict
  -- it is legal, and has no data race
  Clean : Verdict
  -- it is legal, and has data races: these are the reported ones, one for each variable that has any
  Races : (races : List Race) → Verdict

-- the reported race of each variable that has one, in rising order of the variables
pub record AreReportedRaces (caps : ℕ → ℕ) (events : List Event) (races : List Race) : Type 0 where
  pub each : (k : ℕ) (r : Race) → slice_get races k ≡ Some r → IsReportedRace caps events r.var r.first r.second
  pub rising : (k m : ℕ) (r s : Race) → k < m → slice_get races k ≡ Some r → slice_get races m ≡ Some s → r.var < s.var
  pub every : (x i j : ℕ) → IsRace caps events x i j → (k : ℕ) × (r : Race) × (slice_get races k ≡ Some r) × (r.var ≡ x)

-- the verdict is right for the list
abbrev pub IsVerdict : (ℕ → ℕ) → List Event → Verdict → Type 0
IsVerdict caps events (Illegal index rule) = IsIllegalAt caps events index rule
IsVerdict caps events Clean = IsLegal caps events × IsDataRaceFree caps events
IsVerdict caps events (Races races) = IsLegal caps events × (races ≢ []) × AreReportedRaces caps events races
