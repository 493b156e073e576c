-- How far a list of events has come along the goroutines' recorded executions.
use Rattle.std.specs.Prelude.{ℕ, ◌≡◌, ◌<◌, ◌+◌, ◌==◌, IsTrue, if◌then◌else◌, min, List, length, take, slice_get, slice_set}
use Rattle.std.specs.Prelude.{Option, Some, None}
use Rattle.std.specs.List.{slice_index_or}
use Rattle.race_records.specs.declared.event.Event.{Event}
use Rattle.race_model.specs.{Events.{At, partner, takes_part}, Clocks.participations}
use Rattle.race_predict.specs.declared.positions.Position.{Position}

-- of each goroutine that has a row, so many events stand in the list
abbrev pub Counts : List ℕ → List Event → Type 0
Counts counts past = (g : ℕ) → g < length counts → slice_index_or counts g 0 ≡ participations g past

-- one more in a row; a row is a u32
abbrev pub one_more : List ℕ → ℕ → List ℕ
one_more counts g = slice_set counts g (min (slice_index_or counts g 0 + 1) 4_294_967_295)

-- one more for each of an event's participants
abbrev pub counted : List ℕ → ℕ → Option ℕ → List ℕ
counted counts who None = one_more counts who
counted counts who (Some other) = if other == who then one_more counts who else one_more (one_more counts who) other

-- the first list is a front of the second
abbrev pub IsFront : List Event → List Event → Type 0
IsFront front whole = (k : ℕ) (a : Event) → slice_get front k ≡ Some a → slice_get whole k ≡ Some a

-- how many events each that takes part in event e has before index i of the list
pub record IsPosition (events : List Event) (i : ℕ) (e : Event) (p : Position) : Type 0 where
  pub own : p.own ≡ participations e.who (take i events)
  pub partners : (g : ℕ) → partner e.op ≡ Some g → p.partners ≡ participations g (take i events)

-- the positions of the first n events
pub record ArePositions (events : List Event) (n : ℕ) (positions : List Position) : Type 0 where
  pub as_many : length positions ≡ n
  pub each : (i : ℕ) (e : Event) (p : Position) → At events i e → slice_get positions i ≡ Some p → IsPosition events i e p

-- of each that takes part in event e, as many events stand in the list as stood before it, at index i, among the recorded ones
abbrev pub IsNext : List Event → List Event → ℕ → Event → Type 0
IsNext recorded past i e = (g : ℕ) → IsTrue (takes_part g e) → participations g past ≡ participations g (take i recorded)
