-- What a list of races says of a list of events. (The Go Memory Model, "Memory Model": data race)
use Rattle.std.specs.{Prelude.{ℕ, ◌≡◌, ◌<◌, List, length, map, Option, Some, None}, List.{filter_map, slice_index_or}}
use Rattle.race_records.specs.declared.event.Event.{Event}
use Rattle.race_model.specs.{Race.{IsRace, IsReportedRace}, Verdict.AreReportedRaces}
use Rattle.race_verdict.specs.declared.races.Race.{Race}
use Rattle.race_model.specs.Verdict as model

-- the race as the model has it
abbrev pub race_of : Race → model.Race
race_of r = record { var = r.var; first = r.first; second = r.second }

-- what is noted of variable x is right: no race, or its reported one
abbrev pub IsFound : (ℕ → ℕ) → List Event → ℕ → Option Race → Type 0
IsFound caps events x None = (i j : ℕ) → ¬ IsRace caps events x i j
IsFound caps events x (Some r) = (r.var ≡ x) × IsReportedRace caps events x r.first r.second

-- what is noted of each variable is right
abbrev pub AreFound : (ℕ → ℕ) → List Event → List (Option Race) → Type 0
AreFound caps events found = (x : ℕ) → x < length found → IsFound caps events x (slice_index_or found x None)

-- the races that are noted, in rising order of their variables
abbrev pub races_of : List (Option Race) → List Race
races_of found = filter_map (λ o. o) found

-- the list holds the reported race of each variable that has one
abbrev pub AreRaces : (ℕ → ℕ) → List Event → List Race → Type 0
AreRaces caps events races = AreReportedRaces caps events (map race_of races)
