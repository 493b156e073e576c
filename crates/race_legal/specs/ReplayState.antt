-- What a replay keeps: a table for each kind of object.
use Rattle.std.specs.Prelude.{ℕ, ◌≡◌, ◌<◌, ◌-◌, ◌==◌, ◌||◌, ◌&&◌, not, nat_lt, Bool, false, IsTrue, List, [], length}
use Rattle.std.specs.{Prelude.{slice_get, Option}, List.slice_index_or}
use Rattle.race_records.specs.{declared.{kind.Kind.Kind, event.Event.Event}, Operands.op_is_in_range}

-- with so many objects of each kind, the event's goroutine is in range and all that its operation names
abbrev pub IsInRange : (Kind → ℕ) → Event → Type 0
IsInRange counts e = (e.who < counts Kind.Goroutine) × IsTrue (op_is_in_range counts e.op)

-- the table of goroutines, a row for each: a Go started it, it has exited, the onces in whose functions it is, in the order in which they began
pub record GoroutinesState : Type 0 where
  pub started : List Bool
  pub exited : List Bool
  pub stacks : List (List ℕ)

-- the table of channels, a row for each: how many values fit in, it was closed, the values that wait in the order in which they came
pub record ChannelsState : Type 0 where
  pub capacities : List ℕ
  pub closed : List Bool
  pub queues : List (List ℕ)

-- the table of locks, a row for each: it is locked, how many hold it for reading
pub record LocksState : Type 0 where
  pub held : List Bool
  pub readers : List ℕ

-- the table of onces, a row for each: its function began, it ended
pub record OncesState : Type 0 where
  pub begun : List Bool
  pub ended : List Bool

-- a `Replay` as its callers see it
pub record ReplayState : Type 0 where
  -- how many events it accepted, and whether the run is over
  pub len : ℕ
  pub over : Bool
  pub goroutines : GoroutinesState
  -- the last value, by variable
  pub values : List ℕ
  pub channels : ChannelsState
  pub locks : LocksState
  pub onces : OncesState

-- how many objects of each kind the tables tell of
abbrev pub counts_in : ReplayState → Kind → ℕ
counts_in k Kind.Goroutine = length k.goroutines.started
counts_in k Kind.Var = length k.values
counts_in k Kind.Chan = length k.channels.capacities
counts_in k Kind.Lock = length k.locks.held
counts_in k Kind.Once = length k.onces.begun

-- a Go started the goroutine
abbrev pub started_in : GoroutinesState → ℕ → Bool
started_in t g = slice_index_or t.started g false

-- it has exited
abbrev pub exited_in : GoroutinesState → ℕ → Bool
exited_in t g = slice_index_or t.exited g false

-- it is main or was started, and hasn't exited
abbrev pub runs_in : GoroutinesState → ℕ → Bool
runs_in t g = (g == 0 || started_in t g) && not (exited_in t g)

-- the onces in whose functions it is
abbrev pub stack_in : GoroutinesState → ℕ → List ℕ
stack_in t g = slice_index_or t.stacks g []

-- the one that began last
abbrev pub innermost_in : GoroutinesState → ℕ → Option ℕ
innermost_in t g = slice_get (stack_in t g) (length (stack_in t g) - 1)

-- the last value of the variable
abbrev pub value_in : ReplayState → ℕ → ℕ
value_in k x = slice_index_or k.values x 0

-- how many values fit into the channel
abbrev pub capacity_in : ChannelsState → ℕ → ℕ
capacity_in t c = slice_index_or t.capacities c 0

-- the channel was closed
abbrev pub closed_in : ChannelsState → ℕ → Bool
closed_in t c = slice_index_or t.closed c false

-- the values that wait in it
abbrev pub queue_in : ChannelsState → ℕ → List ℕ
queue_in t c = slice_index_or t.queues c []

-- the lock is locked
abbrev pub held_in : LocksState → ℕ → Bool
held_in t l = slice_index_or t.held l false

-- how many hold it for reading
abbrev pub readers_in : LocksState → ℕ → ℕ
readers_in t l = slice_index_or t.readers l 0

-- some do
abbrev pub read_held_in : LocksState → ℕ → Bool
read_held_in t l = nat_lt 0 (readers_in t l)

-- the function of the once began
abbrev pub begun_in : OncesState → ℕ → Bool
begun_in t o = slice_index_or t.begun o false

-- it ended
abbrev pub ended_in : OncesState → ℕ → Bool
ended_in t o = slice_index_or t.ended o false

-- each object has a row in all columns of its table
pub record IsSquare (k : ReplayState) : Type 0 where
  pub exited : length k.goroutines.exited ≡ length k.goroutines.started
  pub stacks : length k.goroutines.stacks ≡ length k.goroutines.started
  pub closed : length k.channels.closed ≡ length k.channels.capacities
  pub queues : length k.channels.queues ≡ length k.channels.capacities
  pub readers : length k.locks.readers ≡ length k.locks.held
  pub ended : length k.onces.ended ≡ length k.onces.begun
