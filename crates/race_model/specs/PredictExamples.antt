-- Other runs of the goroutines of small recorded ones, of which src/predict_examples.rt states what they show. (The Go Memory Model, "Memory Model",
-- "Locks")
use Rattle.std.specs.Prelude.{ℕ, List, [], ◌∷◌}
use Rattle.race_records.specs.declared.event.{Event.Event, Op.TheVariants.{Go, Exit, Read, Write, Lock, Unlock}}
use Rattle.race_model.specs.{Examples.{main, w, x, does}, LockExamples.l}

-- another variable
abbrev pub y : ℕ
y = 1

-- w writes and locks, then main locks and reads: the lock orders the two by luck
abbrev pub w_locks_first : List Event
w_locks_first =
    does main (Go w) ∷ does w (Write x 1) ∷ does w (Lock l) ∷ does w (Unlock l) ∷ does main (Lock l) ∷ does main (Unlock l)
    ∷ does main (Read x 1) ∷ does main Exit ∷ []

-- Other runs.

-- main locks and reads before w locks
abbrev pub main_locks_first : List Event
main_locks_first =
    does main (Go w) ∷ does main (Lock l) ∷ does main (Unlock l) ∷ does w (Write x 1) ∷ does main (Read x 1) ∷ []

-- main finds the initial value, and w writes next
abbrev pub main_reads_first : List Event
main_reads_first =
    does main (Go w) ∷ does main (Lock l) ∷ does main (Unlock l) ∷ does main (Read x 0) ∷ does w (Write x 1) ∷ []

-- What is none.

-- main doesn't unlock
abbrev pub main_leaves_out : List Event
main_leaves_out = does main (Go w) ∷ does main (Lock l) ∷ does w (Write x 1) ∷ does main (Read x 1) ∷ []

-- w locks before it writes
abbrev pub w_exchanges : List Event
w_exchanges = does main (Go w) ∷ does w (Lock l) ∷ does w (Write x 1) ∷ []

-- the goroutines do the same, and both hold the lock
abbrev pub both_lock : List Event
both_lock = does main (Go w) ∷ does w (Write x 1) ∷ does w (Lock l) ∷ does main (Lock l) ∷ []

-- main goes on though it found another value
abbrev pub main_goes_on : List Event
main_goes_on =
    does main (Go w) ∷ does main (Lock l) ∷ does main (Unlock l) ∷ does main (Read x 0) ∷ does main Exit ∷ []

-- main reads another variable
abbrev pub main_reads_another : List Event
main_reads_another = does main (Go w) ∷ does main (Lock l) ∷ does main (Unlock l) ∷ does main (Read y 0) ∷ []

-- w writes another value
abbrev pub w_writes_another : List Event
w_writes_another = does main (Go w) ∷ does w (Write x 2) ∷ []

-- Ends.

-- one goroutine writes and reads
abbrev pub own_accesses : List Event
own_accesses = does main (Write x 1) ∷ does main (Read x 1) ∷ []

-- the two race, and main exits behind them
abbrev pub race_then_exit : List Event
race_then_exit = does main (Go w) ∷ does main (Write x 1) ∷ does w (Read x 1) ∷ does main Exit ∷ []
