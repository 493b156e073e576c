-- The laws of the exchange. Each is the contract of a function in src/laws.rt that does nothing. (Our own)
use Rattle.std.specs.Prelude.{ℕ, ◌≡◌, ◌↔◌, List}
use Rattle.race_records.specs.declared.event.Event.{Event}
use Rattle.race_model.specs.{Legal.IsLegal, Predict.execution_of}
use Rattle.race_exchange.specs.Exchange.{SameButForOrder, IsInOrder, HasRaceOn}

-- each list has another order in which no independent neighbours are turned
abbrev pub HasAnOrder : List Event → Type 0
HasAnOrder events = (other : List Event) × SameButForOrder events other × IsInOrder other

-- what is the same but for the order is legal too
abbrev pub OtherOrdersAreLegal : List Event → Type 0
OtherOrdersAreLegal events =
    (caps : ℕ → ℕ) (other : List Event) → SameButForOrder events other → IsLegal caps events → IsLegal caps other

-- there each goroutine does the same
abbrev pub OtherOrdersDoTheSame : List Event → Type 0
OtherOrdersDoTheSame events = (other : List Event) (g : ℕ) → SameButForOrder events other → execution_of g events ≡ execution_of g other

-- and the same variables have a race
abbrev pub OtherOrdersHaveTheSameRaces : List Event → Type 0
OtherOrdersHaveTheSameRaces events =
    (caps : ℕ → ℕ) (other : List Event) (x : ℕ) → SameButForOrder events other → HasRaceOn caps events x ↔ HasRaceOn caps other x
