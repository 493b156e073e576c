-- Lists of events that differ in the order of independent neighbours. (Our own)
use Rattle.std.specs.Prelude.{ℕ, ◌≡◌, ◌<◌, ◌+◌, ◌++◌, true, false, List, ◌∷◌, length, take}
use Rattle.race_records.specs.declared.event.Event.{Event}
use Rattle.race_model.specs.{Events.At, Race.IsRace}
use Rattle.race_exchange.specs.Independent.{are_independent, are_turned}

-- two independent neighbours after which something comes have changed places
pub record IsExchanged (one other : List Event) : Type 0 where
  pub before : List Event
  pub a : Event
  pub b : Event
  pub next : Event
  pub after : List Event
  pub independent : are_independent a b ≡ true
  pub one_is : one ≡ before ++ a ∷ b ∷ next ∷ after
  pub other_is : other ≡ before ++ b ∷ a ∷ next ∷ after

-- so it is of two and then of two others, as often as you like
pub data SameButForOrder : List Event → List Event → Type 0 where
  same : {events : List Event} → SameButForOrder events events
  exchanged : {one other last : List Event} → IsExchanged one other → SameButForOrder other last → SameButForOrder one last

-- no two independent neighbours after which something comes have the greater goroutine first
abbrev pub IsInOrder : List Event → Type 0
IsInOrder events =
    (i : ℕ) (a b next : Event) → At events i a → At events (i + 1) b → At events (i + 2) next → are_turned a b ≡ false

-- the first n events end with two independent neighbours of which the greater goroutine is first, something comes after them, and none are turned before them
pub record IsFirstTurned (events : List Event) (n : ℕ) : Type 0 where
  pub before : ℕ
  pub a : Event
  pub b : Event
  pub last_two : n ≡ before + 2
  pub at_a : At events before a
  pub at_b : At events (before + 1) b
  pub turned : are_turned a b ≡ true
  pub more : n < length events
  pub first : IsInOrder (take n events)

-- variable x has a race
abbrev pub HasRaceOn : (ℕ → ℕ) → List Event → ℕ → Type 0
HasRaceOn caps events x = (i : ℕ) × (j : ℕ) × IsRace caps events x i j
