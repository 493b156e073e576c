-- What a replay says of the events that it accepted.
use Rattle.std.specs.Prelude.{ℕ, ◌≡◌, ◌<◌, ◌+◌, cond, IsTrue, List, [], ◌∷◌, ◌++◌, ◌≤◌, length, drop, filter_map}
use Rattle.std.specs.Prelude.{Option}
use Rattle.race_records.specs.declared.{kind.Kind.Kind, event.Event.Event}
use Rattle.race_records.specs.Declarations.{Declaration, counts_of, capacity_of}
use Rattle.race_model.specs.Events.{has_exited, sends, receives, locks, unlocks, rlocks, runlocks, once_begins, count}
use Rattle.race_model.specs.State.{over, started, last_value, is_closed, sent, is_ended, unended_once}
use Rattle.race_model.specs.Legal.{broken, IsLegal}
use Rattle.race_legal.specs.ReplayState.{ReplayState, counts_in, started_in, exited_in, value_in, capacity_in}
use Rattle.race_legal.specs.ReplayState.{closed_in, queue_in, stack_in, held_in, readers_in, begun_in, ended_in}
use Rattle.race_legal.specs.ReplayState.{IsSquare}

-- under the declarations, the replay stands for a legal list of events: its tables answer each state word
pub record StandsFor (declarations : List Declaration) (k : ReplayState) (past : List Event) : Type 0 where
  pub legal : IsLegal (capacity_of declarations) past
  pub len : length past ≡ k.len
  pub counts : counts_in k ≡ counts_of declarations
  pub capacity : (c : ℕ) → c < counts_in k Kind.Chan → capacity_of declarations c ≡ capacity_in k.channels c
  pub over : over past ≡ k.over
  pub started : (g : ℕ) → g < counts_in k Kind.Goroutine → started g past ≡ started_in k.goroutines g
  pub exited : (g : ℕ) → g < counts_in k Kind.Goroutine → has_exited g past ≡ exited_in k.goroutines g
  pub values : (x : ℕ) → x < counts_in k Kind.Var → last_value x past ≡ value_in k x
  pub closed : (c : ℕ) → c < counts_in k Kind.Chan → is_closed c past ≡ closed_in k.channels c
  -- the values that were sent, without as many as were received, of which there are no more
  pub queue : (c : ℕ) → c < counts_in k Kind.Chan → drop (count (receives c) past) (filter_map (λ e. sent c e.op) past) ≡ queue_in k.channels c
  pub received : (c : ℕ) → c < counts_in k Kind.Chan → count (receives c) past ≤ count (sends c) past
  -- a lock was locked as often as unlocked, and once more where it is locked; so it is for reading, once more for each reader
  pub held : (l : ℕ) → l < counts_in k Kind.Lock → count (locks l) past ≡ count (unlocks l) past + cond (held_in k.locks l) 1 0
  pub readers : (l : ℕ) → l < counts_in k Kind.Lock → count (rlocks l) past ≡ count (runlocks l) past + readers_in k.locks l
  -- the function of a once began once at most, and before it ended
  pub begun : (o : ℕ) → o < counts_in k Kind.Once → count (once_begins o) past ≡ cond (begun_in k.onces o) 1 0
  pub ended : (o : ℕ) → o < counts_in k Kind.Once → is_ended o past ≡ ended_in k.onces o
  pub ended_begun : (o : ℕ) → o < counts_in k Kind.Once → IsTrue (ended_in k.onces o) → IsTrue (begun_in k.onces o)
  -- the onces that the goroutine began and that haven't ended
  pub stack : (g : ℕ) → g < counts_in k Kind.Goroutine → filter_map (λ e. unended_once g past e.who e.op) past ≡ stack_in k.goroutines g
  pub square : IsSquare k

-- it holds of each list for which the replay stands
abbrev pub ForEachPast : ReplayState → (List Event → Type 0) → Type 0
ForEachPast k Holds = (declarations : List Declaration) (past : List Event) → StandsFor declarations k past → Holds past

-- whichever list it stood for, it stands for that list with the event behind it, which so is legal
abbrev pub GoesOn : ReplayState → ReplayState → Event → Type 0
GoesOn old new e = (declarations : List Declaration) (past : List Event) → StandsFor declarations old past → StandsFor declarations new (past ++ e ∷ [])

-- behind each list for which the replay stands, this is the least rule that the event breaks, if it breaks any
abbrev pub IsLeastBroken : ReplayState → Event → Option ℕ → Type 0
IsLeastBroken k e rule = (declarations : List Declaration) (past : List Event) → StandsFor declarations k past → broken (capacity_of declarations) past e ≡ rule
