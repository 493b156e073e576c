-- Small lists of events with tries to lock, whose verdicts are proved in src/try_examples.rt. (The Go Memory Model, "Locks": TryLock,
-- TryRLock; package sync, Mutex, RWMutex)
use Rattle.std.specs.Prelude.{List, [], ◌∷◌}
use Rattle.race_records.specs.declared.event.{Event.Event, Op.TheVariants.{Go, Read, Write, Lock, Unlock, RLock}}
use Rattle.race_records.specs.declared.event.Op.TheVariants.{RUnlock, TryLock, TryRLock, TryFail}
use Rattle.race_model.specs.{Examples.{main, w, v, x, does}, LockExamples.{l, m}}

-- Small lists to come before an event.

abbrev pub try_locked : List Event
try_locked = does main (Go w) ∷ does main (TryLock l) ∷ []

abbrev pub try_locked_for_reading : List Event
try_locked_for_reading = does main (Go w) ∷ does main (TryRLock l) ∷ []

abbrev pub try_failed : List Event
try_failed = does main (Go w) ∷ does main (TryFail l) ∷ []

-- a lock that is held, and a try of it that fails
abbrev pub try_failed_on_held : List Event
try_failed_on_held = does main (Go w) ∷ does main (Lock l) ∷ does w (TryFail l) ∷ []

-- a reader, and a try that fails
abbrev pub try_failed_beside_a_reader : List Event
try_failed_beside_a_reader = does main (Go w) ∷ does main (RLock l) ∷ does w (TryFail l) ∷ []

-- w's try of another lock fails beside one that is held
abbrev pub try_failed_on_another : List Event
try_failed_on_another = does main (Go w) ∷ does main (Lock l) ∷ does w (TryFail m) ∷ []

-- Edges.

-- w writes under the lock, then main tries it with success, and reads
abbrev pub write_then_try : List Event
write_then_try =
    does main (Go w) ∷ does w (Lock l) ∷ does w (Write x 5) ∷ does w (Unlock l) ∷ does main (TryLock l)
    ∷ does main (Read x 5) ∷ []

-- the try fails
abbrev pub write_then_failed_try : List Event
write_then_failed_try =
    does main (Go w) ∷ does w (Lock l) ∷ does w (Write x 5) ∷ does w (Unlock l) ∷ does main (TryFail l)
    ∷ does main (Read x 5) ∷ []

-- w reads under the lock, then main tries it with success, and writes
abbrev pub read_then_try : List Event
read_then_try =
    does main (Go w) ∷ does w (RLock l) ∷ does w (Read x 0) ∷ does w (RUnlock l) ∷ does main (TryLock l)
    ∷ does main (Write x 1) ∷ []

-- w's RLock was a try that succeeded
abbrev pub try_reads_then_lock : List Event
try_reads_then_lock =
    does main (Go w) ∷ does w (TryRLock l) ∷ does w (Read x 0) ∷ does w (RUnlock l) ∷ does main (Lock l)
    ∷ does main (Write x 1) ∷ []

-- w's Lock was a try that succeeded
abbrev pub try_writes_then_lock : List Event
try_writes_then_lock =
    does main (Go w) ∷ does w (TryLock l) ∷ does w (Write x 5) ∷ does w (Unlock l) ∷ does main (Lock l)
    ∷ does main (Read x 5) ∷ []

-- w reads under the lock; v's try locks it next, main unlocks it for v, and locks it itself before it writes
abbrev pub try_between : List Event
try_between =
    does main (Go w) ∷ does main (Go v) ∷ does w (RLock l) ∷ does w (Read x 0) ∷ does w (RUnlock l) ∷ does v (TryLock l)
    ∷ does main (Unlock l) ∷ does main (Lock l) ∷ does main (Write x 1) ∷ []

-- v's try fails
abbrev pub failed_try_between : List Event
failed_try_between =
    does main (Go w) ∷ does main (Go v) ∷ does w (RLock l) ∷ does w (Read x 0) ∷ does w (RUnlock l) ∷ does v (TryFail l)
    ∷ does main (Lock l) ∷ does main (Write x 1) ∷ []

-- w writes under the lock, then main tries to lock it for reading with success, and reads
abbrev pub write_then_try_to_read : List Event
write_then_try_to_read =
    does main (Go w) ∷ does w (Lock l) ∷ does w (Write x 5) ∷ does w (Unlock l) ∷ does main (TryRLock l)
    ∷ does main (Read x 5) ∷ []

-- w writes under the lock; v locks it next, and main unlocks it for v: that is the last Unlock before main's TryRLock
abbrev pub earlier_unlock_then_try : List Event
earlier_unlock_then_try =
    does main (Go w) ∷ does main (Go v) ∷ does w (Lock l) ∷ does w (Write x 5) ∷ does w (Unlock l) ∷ does v (Lock l)
    ∷ does main (Unlock l) ∷ does main (TryRLock l) ∷ does main (Read x 5) ∷ []

-- w writes under the lock, then main tries another one with success
abbrev pub write_then_try_of_another : List Event
write_then_try_of_another =
    does main (Go w) ∷ does w (Lock l) ∷ does w (Write x 5) ∷ does w (Unlock l) ∷ does main (TryLock m)
    ∷ does main (Read x 5) ∷ []

abbrev pub write_then_try_to_read_another : List Event
write_then_try_to_read_another =
    does main (Go w) ∷ does w (Lock l) ∷ does w (Write x 5) ∷ does w (Unlock l) ∷ does main (TryRLock m)
    ∷ does main (Read x 5) ∷ []

-- w's try locked another lock than main's
abbrev pub try_of_another_writes_then_lock : List Event
try_of_another_writes_then_lock =
    does main (Go w) ∷ does w (TryLock m) ∷ does w (Write x 5) ∷ does w (Unlock m) ∷ does main (Lock l)
    ∷ does main (Read x 5) ∷ []

-- What orders nothing.

-- w writes and fails to lock, then main locks and reads
abbrev pub write_then_own_failed_try : List Event
write_then_own_failed_try =
    does main (Go w) ∷ does w (Write x 5) ∷ does w (TryFail l) ∷ does main (Lock l) ∷ does main (Read x 5) ∷ []

-- w writes before its try locks; main unlocks for it, then locks
abbrev pub write_then_own_try : List Event
write_then_own_try =
    does main (Go w) ∷ does w (Write x 5) ∷ does w (TryLock l) ∷ does main (Unlock l) ∷ does main (Lock l)
    ∷ does main (Read x 5) ∷ []

-- w leaves as a reader, and main's try comes as one
abbrev pub reader_then_try_to_read : List Event
reader_then_try_to_read =
    does main (Go w) ∷ does w (RLock l) ∷ does w (Write x 5) ∷ does w (RUnlock l) ∷ does main (TryRLock l)
    ∷ does main (Read x 5) ∷ []
