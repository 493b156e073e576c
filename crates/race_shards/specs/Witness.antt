-- Witnesses: an order of the accesses in which the two of a race stand side by side. (Our own; compare The Go Memory
-- Model, "Memory Model": data race)
use Rattle.std.specs.Prelude.{ℕ, ◌≡◌, ◌≢◌, ◌<◌, ◌+◌, ◌⊎◌, List, ◌∷◌, ◌++◌, Some, slice_get}
use Rattle.race_records.specs.declared.event.Event.{Event}
use Rattle.race_model.specs.{Legal.IsLegal, Order.HappensBefore, Race.IsRace, Reorder.{IsAccess, IsReordering}}
use Rattle.race_verdict.specs.declared.races.Race.{Race}

-- a happens before i or before j
abbrev pub IsBeforeEither : (ℕ → ℕ) → List Event → ℕ → ℕ → ℕ → Type 0
IsBeforeEither caps events i j a = HappensBefore caps events a i ⊎ HappensBefore caps events a j

-- an access that does
abbrev pub IsEarly : (ℕ → ℕ) → List Event → ℕ → ℕ → ℕ → Type 0
IsEarly caps events i j a = IsAccess events a × IsBeforeEither caps events i j a

-- an access that doesn't, and is neither of the two
abbrev pub IsOther : (ℕ → ℕ) → List Event → ℕ → ℕ → ℕ → Type 0
IsOther caps events i j a = IsAccess events a × (a ≢ i) × (a ≢ j) × ¬ IsBeforeEither caps events i j a

-- all numbers of which P holds, in rising order
pub record AreAll (P : ℕ → Type 0) (xs : List ℕ) : Type 0 where
  pub only : (k a : ℕ) → slice_get xs k ≡ Some a → P a
  pub each : (a : ℕ) → P a → (k : ℕ) × (slice_get xs k ≡ Some a)
  pub rising : (k m a b : ℕ) → k < m → slice_get xs k ≡ Some a → slice_get xs m ≡ Some b → a < b

-- the list of i and j: all accesses that happen before either, in the order of the events; then j, then i; then all others
pub record IsWitnessList (caps : ℕ → ℕ) (events : List Event) (i j : ℕ) (order : List ℕ) : Type 0 where
  pub early : List ℕ
  pub others : List ℕ
  pub all_early : AreAll (IsEarly caps events i j) early
  pub all_others : AreAll (IsOther caps events i j) others
  pub list : order ≡ early ++ j ∷ i ∷ others

-- b stands directly behind a
abbrev pub StandsNext : List ℕ → ℕ → ℕ → Type 0
StandsNext order a b = (k : ℕ) × (slice_get order k ≡ Some a) × (slice_get order (k + 1) ≡ Some b)

-- the list is legal, and the two are in rising order two accesses of the variable that race
pub record RacesInOrder (caps : ℕ → ℕ) (events : List Event) (r : Race) : Type 0 where
  pub legal : IsLegal caps events
  pub race : IsRace caps events r.var r.first r.second
  pub in_order : r.first < r.second

-- a witness of the race: its list, which is a reordering in which the second access stands directly before the first
pub record IsWitness (caps : ℕ → ℕ) (events : List Event) (race : Race) (order : List ℕ) : Type 0 where
  pub races : RacesInOrder caps events race
  pub list : IsWitnessList caps events race.first race.second order
  pub reordering : IsReordering caps events order
  pub adjacent : StandsNext order race.second race.first

-- The laws. Each is the contract of a function in src/laws.rt that does nothing.

-- the list of a race is a reordering in which the second access stands directly before the first
abbrev pub WitnessListIsReordering : List Event → Type 0
WitnessListIsReordering events = (caps : ℕ → ℕ) (x i j : ℕ) (order : List ℕ) → IsRace caps events x i j
    → IsWitnessList caps events i j order → IsReordering caps events order × StandsNext order j i

-- a race has one list at most
abbrev pub WitnessListIsOne : List Event → Type 0
WitnessListIsOne events = (caps : ℕ → ℕ) (i j : ℕ) (one two : List ℕ) → IsWitnessList caps events i j one
    → IsWitnessList caps events i j two → one ≡ two
