-- Small lists of events on mutexes and rwmutexes, whose verdicts are proved in src/lock_examples.rt. (The Go Memory
-- Model, "Locks"; package sync, Mutex, RWMutex)
use Rattle.std.specs.Prelude.{ℕ, List, [], ◌∷◌}
use Rattle.race_records.specs.declared.event.Event.{Event}
use Rattle.race_records.specs.declared.event.Op.TheVariants.{Go, Exit, Read, Write, Lock, Unlock, RLock, RUnlock}
use Rattle.race_model.specs.Examples.{main, w, v, x, does}

-- two locks: what is said of them holds of mutexes and rwmutexes alike, but for RLock and RUnlock, which rwmutexes alone have
abbrev pub l : ℕ
l = 0

abbrev pub m : ℕ
m = 1

-- Small lists to come before an event.

abbrev pub locked : List Event
locked = does main (Go w) ∷ does main (Lock l) ∷ []

abbrev pub unlocked : List Event
unlocked = does main (Go w) ∷ does main (Lock l) ∷ does main (Unlock l) ∷ []

abbrev pub locked_again : List Event
locked_again = does main (Go w) ∷ does main (Lock l) ∷ does w (Unlock l) ∷ does main (Lock l) ∷ []

abbrev pub one_reader : List Event
one_reader = does main (Go w) ∷ does main (RLock l) ∷ []

abbrev pub two_readers : List Event
two_readers = does main (Go w) ∷ does main (RLock l) ∷ does w (RLock l) ∷ []

abbrev pub one_reader_left : List Event
one_reader_left = does main (Go w) ∷ does main (RLock l) ∷ does w (RLock l) ∷ does main (RUnlock l) ∷ []

abbrev pub no_reader_left : List Event
no_reader_left =
    does main (Go w) ∷ does main (RLock l) ∷ does w (RLock l) ∷ does main (RUnlock l) ∷ does w (RUnlock l) ∷ []

-- nobody started w
abbrev pub locked_by_main_alone : List Event
locked_by_main_alone = does main (Lock l) ∷ []

-- w exits and leaves it locked
abbrev pub left_locked : List Event
left_locked = does main (Go w) ∷ does w (Lock l) ∷ does w Exit ∷ []

-- w reads under it, and main exits
abbrev pub left_read_locked : List Event
left_read_locked = does main (Go w) ∷ does w (RLock l) ∷ does main Exit ∷ []

-- Unlock and Lock.

-- w writes under the lock, then main reads under it
abbrev pub write_then_unlock : List Event
write_then_unlock =
    does main (Go w) ∷ does w (Lock l) ∷ does w (Write x 5) ∷ does w (Unlock l) ∷ does main (Lock l)
    ∷ does main (Read x 5) ∷ []

-- the write stands behind the Unlock
abbrev pub unlock_then_write : List Event
unlock_then_write =
    does main (Go w) ∷ does w (Lock l) ∷ does w (Unlock l) ∷ does w (Write x 5) ∷ does main (Lock l)
    ∷ does main (Read x 5) ∷ []

-- main locks, and w unlocks behind its write
abbrev pub unlocked_by_another : List Event
unlocked_by_another =
    does main (Lock l) ∷ does main (Go w) ∷ does w (Write x 5) ∷ does w (Unlock l) ∷ does main (Lock l)
    ∷ does main (Read x 5) ∷ []

-- w writes under the lock; v locks it next, main unlocks it for v, and locks it itself before it reads
abbrev pub two_locks_on : List Event
two_locks_on =
    does main (Go w) ∷ does main (Go v) ∷ does w (Lock l) ∷ does w (Write x 5) ∷ does w (Unlock l) ∷ does v (Lock l)
    ∷ does main (Unlock l) ∷ does main (Lock l) ∷ does main (Read x 5) ∷ []

-- main doesn't lock it itself
abbrev pub no_second_lock : List Event
no_second_lock =
    does main (Go w) ∷ does main (Go v) ∷ does w (Lock l) ∷ does w (Write x 5) ∷ does w (Unlock l) ∷ does v (Lock l)
    ∷ does main (Unlock l) ∷ does main (Read x 5) ∷ []

-- w unlocks another lock behind the write
abbrev pub another_unlocked : List Event
another_unlocked =
    does main (Go w) ∷ does w (Lock l) ∷ does w (Unlock l) ∷ does w (Write x 5) ∷ does w (Lock m) ∷ does w (Unlock m)
    ∷ does main (Lock l) ∷ does main (Read x 5) ∷ []

-- main locks that one too
abbrev pub both_locked : List Event
both_locked =
    does main (Go w) ∷ does w (Lock l) ∷ does w (Unlock l) ∷ does w (Write x 5) ∷ does w (Lock m) ∷ does w (Unlock m)
    ∷ does main (Lock l) ∷ does main (Lock m) ∷ does main (Read x 5) ∷ []

-- Unlock and RLock.

-- w writes under the lock, then two others read under it
abbrev pub write_then_rlocks : List Event
write_then_rlocks =
    does main (Go w) ∷ does main (Go v) ∷ does w (Lock l) ∷ does w (Write x 5) ∷ does w (Unlock l)
    ∷ does main (RLock l) ∷ does v (RLock l) ∷ does main (Read x 5) ∷ does v (Read x 5) ∷ []

-- the write stands behind the Unlock
abbrev pub unlock_then_write_then_rlock : List Event
unlock_then_write_then_rlock =
    does main (Go w) ∷ does w (Lock l) ∷ does w (Unlock l) ∷ does w (Write x 5) ∷ does main (RLock l)
    ∷ does main (Read x 5) ∷ []

-- w writes when it has locked again
abbrev pub second_unlock : List Event
second_unlock =
    does main (Go w) ∷ does w (Lock l) ∷ does w (Unlock l) ∷ does w (Lock l) ∷ does w (Write x 5) ∷ does w (Unlock l)
    ∷ does main (RLock l) ∷ does main (Read x 5) ∷ []

-- w writes under the lock; v locks it next, and main unlocks it for v: that is the last Unlock before main's RLock
abbrev pub earlier_unlock : List Event
earlier_unlock =
    does main (Go w) ∷ does main (Go v) ∷ does w (Lock l) ∷ does w (Write x 5) ∷ does w (Unlock l) ∷ does v (Lock l)
    ∷ does main (Unlock l) ∷ does main (RLock l) ∷ does main (Read x 5) ∷ []

-- main unlocks from reading, for w, and doesn't lock for reading itself
abbrev pub no_rlock : List Event
no_rlock =
    does main (Go w) ∷ does w (Lock l) ∷ does w (Write x 5) ∷ does w (Unlock l) ∷ does w (RLock l)
    ∷ does main (RUnlock l) ∷ does main (Read x 5) ∷ []

-- w unlocks another lock behind the write
abbrev pub another_unlocked_then_rlock : List Event
another_unlocked_then_rlock =
    does main (Go w) ∷ does w (Lock l) ∷ does w (Unlock l) ∷ does w (Write x 5) ∷ does w (Lock m) ∷ does w (Unlock m)
    ∷ does main (RLock l) ∷ does main (Read x 5) ∷ []

-- RUnlock and Lock.

-- w reads under the lock, then main writes under it
abbrev pub read_then_runlock : List Event
read_then_runlock =
    does main (Go w) ∷ does w (RLock l) ∷ does w (Read x 0) ∷ does w (RUnlock l) ∷ does main (Lock l)
    ∷ does main (Write x 1) ∷ []

-- the read stands behind the RUnlock
abbrev pub runlock_then_read : List Event
runlock_then_read =
    does main (Go w) ∷ does w (RLock l) ∷ does w (RUnlock l) ∷ does w (Read x 0) ∷ does main (Lock l)
    ∷ does main (Write x 1) ∷ []

-- two read side by side
abbrev pub two_read_then_runlock : List Event
two_read_then_runlock =
    does main (Go w) ∷ does main (Go v) ∷ does w (RLock l) ∷ does v (RLock l) ∷ does w (Read x 0) ∷ does v (Read x 0)
    ∷ does w (RUnlock l) ∷ does v (RUnlock l) ∷ does main (Lock l) ∷ does main (Write x 1) ∷ []

-- between the two, main locks another lock, and this one for reading
abbrev pub others_between : List Event
others_between =
    does main (Go w) ∷ does w (RLock l) ∷ does w (Read x 0) ∷ does w (RUnlock l) ∷ does main (Lock m)
    ∷ does main (RLock l) ∷ does main (RUnlock l) ∷ does main (Lock l) ∷ does main (Write x 1) ∷ []

-- w reads under the lock; v locks it next, main unlocks it for v, and locks it itself before it writes
abbrev pub two_locks_on_from_read : List Event
two_locks_on_from_read =
    does main (Go w) ∷ does main (Go v) ∷ does w (RLock l) ∷ does w (Read x 0) ∷ does w (RUnlock l) ∷ does v (Lock l)
    ∷ does main (Unlock l) ∷ does main (Lock l) ∷ does main (Write x 1) ∷ []

-- w unlocks another lock from reading behind the read
abbrev pub another_runlocked : List Event
another_runlocked =
    does main (Go w) ∷ does w (RLock l) ∷ does w (RUnlock l) ∷ does w (Read x 0) ∷ does w (RLock m) ∷ does w (RUnlock m)
    ∷ does main (Lock l) ∷ does main (Write x 1) ∷ []

-- What orders nothing.

-- two have it locked for reading; w writes and leaves, then main leaves and reads
abbrev pub readers_side_by_side : List Event
readers_side_by_side =
    does main (Go w) ∷ does w (RLock l) ∷ does main (RLock l) ∷ does w (Write x 5) ∷ does w (RUnlock l)
    ∷ does main (RUnlock l) ∷ does main (Read x 5) ∷ []

-- main comes when w has left
abbrev pub reader_after_reader : List Event
reader_after_reader =
    does main (Go w) ∷ does w (RLock l) ∷ does w (Write x 5) ∷ does w (RUnlock l) ∷ does main (RLock l)
    ∷ does main (Read x 5) ∷ []

-- w writes before it locks for reading, and so does main
abbrev pub write_then_rlocks_alone : List Event
write_then_rlocks_alone =
    does main (Go w) ∷ does w (Write x 5) ∷ does w (RLock l) ∷ does main (RLock l) ∷ does main (Read x 5) ∷ []

-- w writes before it locks, and main unlocks for it
abbrev pub write_then_lock : List Event
write_then_lock =
    does main (Go w) ∷ does w (Write x 5) ∷ does w (Lock l) ∷ does main (Unlock l) ∷ does main (Read x 5) ∷ []

-- then main locks it
abbrev pub write_then_lock_then_lock : List Event
write_then_lock_then_lock =
    does main (Go w) ∷ does w (Write x 5) ∷ does w (Lock l) ∷ does main (Unlock l) ∷ does main (Lock l)
    ∷ does main (Read x 5) ∷ []

-- then main locks it for reading
abbrev pub write_then_lock_then_rlock : List Event
write_then_lock_then_rlock =
    does main (Go w) ∷ does w (Write x 5) ∷ does w (Lock l) ∷ does main (Unlock l) ∷ does main (RLock l)
    ∷ does main (Read x 5) ∷ []

-- w writes before it locks for reading; main unlocks that for it, then locks
abbrev pub write_then_rlock_then_lock : List Event
write_then_rlock_then_lock =
    does main (Go w) ∷ does w (Write x 5) ∷ does w (RLock l) ∷ does main (RUnlock l) ∷ does main (Lock l)
    ∷ does main (Read x 5) ∷ []
