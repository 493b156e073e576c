-- The races that shards tell.
use Rattle.std.specs.Prelude.{ℕ, ◌≡◌, ◌<◌, ◌/◌, ◌%◌, zero, suc, List, [], ◌∷◌, ◌++◌, length, Option, Some, None}
use Rattle.std.specs.{Prelude.slice_get, Option.option_map}
use Rattle.race_access.specs.Kept.{Kept}
use Rattle.race_verdict.specs.declared.{report.{ReportedAccess.ReportedAccess, ReportedRace.ReportedRace}, races.Race.Race}
use Rattle.race_shards.specs.{Variables.kept_of, Shards.ShardState}

-- a race on x
abbrev pub race_with : ℕ → ℕ × ℕ → Race
race_with x p = record { var = x; first = p.0; second = p.1 }

-- the race of variable x, where it has one
abbrev pub race_of : ℕ → Kept → Option Race
race_of x kept = option_map (race_with x) kept.pair

-- what the shard to which x belongs tells of it
abbrev pub race_in : ℕ → Option ShardState → Option Race
race_in x None = None
race_in x (Some s) = race_of x (kept_of s.variables x)

abbrev pub race_told : List ShardState → ℕ → Option Race
race_told shards x = race_in x (slice_get shards (x % length shards))

-- and what it noted of its two accesses
abbrev pub noted_in : ℕ → Option ShardState → Option (ReportedAccess × ReportedAccess)
noted_in x None = None
noted_in x (Some s) = (kept_of s.variables x).noted

abbrev pub noted_told : List ShardState → ℕ → Option (ReportedAccess × ReportedAccess)
noted_told shards x = noted_in x (slice_get shards (x % length shards))

-- the race is on a variable below n, as the shards noted it
abbrev pub IsNotedBy : List ShardState → ℕ → ReportedRace → Type 0
IsNotedBy shards n r = (r.var < n) × (noted_told shards r.var ≡ Some (r.first, r.second))

-- what is told of the variables below n
abbrev pub told_below : List ShardState → ℕ → List (Option Race)
told_below shards zero = []
told_below shards (suc n) = told_below shards n ++ race_told shards n ∷ []

-- the shard to which x belongs has a place for it
abbrev pub HavePlace : List ShardState → ℕ → Type 0
HavePlace shards x = (s : ShardState) → slice_get shards (x % length shards) ≡ Some s → x / s.variables.count < length s.variables.kept

abbrev pub HavePlaces : List ShardState → ℕ → Type 0
HavePlaces shards vars = (x : ℕ) → x < vars → HavePlace shards x
