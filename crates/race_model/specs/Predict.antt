-- What else could have happened: other runs of the goroutines of a recorded one, and races that such a run shows. (Our own; compare The Go Memory
-- Model, "Memory Model": "The memory operations in each goroutine must correspond to a correct sequential execution of that goroutine, given the
-- values read from and written to memory")
use Rattle.std.specs.Prelude.{ℕ, ◌≡◌, ◌≢◌, ◌+◌, ◌⊎◌, List, Some, filter, length, slice_get}
use Rattle.race_records.specs.declared.event.{Event.Event, Op.{Op, TheVariants.Read}}
use Rattle.race_model.specs.{Events.{At, takes_part}, Legal.IsLegal, Race.{Conflict, IsRace}}

-- what goroutine g did, in order: the events in which it takes part, its start too ("A goroutine execution is modeled as a set of memory operations
-- executed by a single goroutine.")
abbrev pub execution_of : ℕ → List Event → List Event
execution_of g events = filter (takes_part g) events

-- the operation, where a read finds the value v
abbrev pub finding : ℕ → Op → Op
finding v (Read x w) = Read x v
finding v o = o

-- the event, where a read finds the value v
abbrev pub told : ℕ → Event → Event
told v e = record { who = e.who; op = finding v e.op; place = e.place; place2 = e.place2 }

-- event a, at index k of an execution, is the event b; or it is the last one, and b but that a read finds another value
abbrev pub DoesTheSame : List Event → ℕ → Event → Event → Type 0
DoesTheSame execution k a b = (a ≡ b) ⊎ ((length execution ≡ k + 1) × ((v : ℕ) × (a ≡ told v b)))

-- the execution is a front of the recorded one: who was told the same asks the same. Its last event may be a read that finds another value, since
-- nothing comes behind it
abbrev pub AsksTheSame : List Event → List Event → Type 0
AsksTheSame execution recorded =
    (k : ℕ) (a : Event) → slice_get execution k ≡ Some a
    → (b : Event) × (slice_get recorded k ≡ Some b) × DoesTheSame execution k a b

-- the other list is a run that the same goroutines could have had
pub record CouldHaveRun (caps : ℕ → ℕ) (recorded other : List Event) : Type 0 where
  pub legal : IsLegal caps other
  pub asks_the_same : (g : ℕ) → AsksTheSame (execution_of g other) (execution_of g recorded)

-- the last two events are accesses of x by two goroutines, one of them at least a Write ("Memory Model": data race)
pub record EndsWithRace (events : List Event) (x : ℕ) : Type 0 where
  -- how many events stand before the two
  pub before : ℕ
  pub last_two : length events ≡ before + 2
  pub conflict : Conflict events x before (before + 1)
  pub two_goroutines : (a b : Event) → At events before a → At events (before + 1) b → a.who ≢ b.who

-- the other list shows that the goroutines of the recorded one could race on x, where they don't
pub record IsPrediction (caps : ℕ → ℕ) (recorded : List Event) (x : ℕ) (other : List Event) : Type 0 where
  pub could_have_run : CouldHaveRun caps recorded other
  pub ends_with_race : EndsWithRace other x
  pub not_recorded : (i j : ℕ) → ¬ IsRace caps recorded x i j
