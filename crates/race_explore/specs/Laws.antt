-- The law of independent neighbours, which a function of src/laws.rt that does nothing has as its contract. (Our own)
use Rattle.std.specs.Prelude.{ℕ, ◌≡◌, List}
use Rattle.race_records.specs.declared.event.Event.{Event}
use Rattle.race_exchange.specs.Exchange.{IsExchanged}
use Rattle.race_hub.specs.Recording.{RecordingState}
use Rattle.race_script.specs.Program.{ProgramState}
use Rattle.race_explore.specs.{Standing.standing_of, Walk.IsRunBy}

-- both runs declare the same and end in the same way, and those that the end is about stand at the same places
pub record EndAlike (one other : RecordingState) : Type 0 where
  pub decls : one.decls ≡ other.decls
  pub end : one.end ≡ other.end
  pub standing : standing_of one ≡ standing_of other

-- where two independent events of a run stand one behind the other, and something comes behind them, some picks lead to a run in which the two have
-- changed places, and which ends alike
abbrev pub IndependentNeighboursChangePlaces : Type 0
IndependentNeighboursChangePlaces =
    (program : ProgramState) (limit : ℕ) (picks : List ℕ) (one : RecordingState) (events : List Event)
    → IsRunBy program limit picks one → IsExchanged one.events events
    → (others : List ℕ) × (other : RecordingState) × IsRunBy program limit others other × (other.events ≡ events) × EndAlike one other
