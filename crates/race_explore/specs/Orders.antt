-- Which runs are judged, and which are skipped. (Our own)
use Rattle.std.specs.Prelude.{ℕ, ◌≡◌, ⊤, List}
use Rattle.race_records.specs.declared.event.Event.{Event}
use Rattle.race_hub.specs.Recording.{RecordingState}
use Rattle.race_exchange.specs.Exchange.{SameButForOrder, IsInOrder, IsFirstTurned}
use Rattle.race_explore.specs.declared.orders.Orders.{Orders}
use Rattle.race_explore.specs.Standing.{standing_of}

-- the run with these events is judged: each, or where one order is enough each that has its independent neighbours in order
abbrev pub IsWanted : Orders → List Event → Type 0
IsWanted Orders.All events = ⊤
IsWanted Orders.One events = IsInOrder events

-- it is skipped, as is each that begins with so many of its events: the last two of these aren't in order, and more come
abbrev pub IsSkipped : Orders → List Event → ℕ → Type 0
IsSkipped Orders.All events n = ⊥
IsSkipped Orders.One events n = IsFirstTurned events n

-- the runs differ only in the order of independent events, and end alike
pub record IsSameRun (one other : RecordingState) : Type 0 where
  pub decls : one.decls ≡ other.decls
  pub events : SameButForOrder one.events other.events
  pub end : one.end ≡ other.end
  pub standing : standing_of one ≡ standing_of other
