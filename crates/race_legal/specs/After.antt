-- How an event changes what a replay keeps.
use Rattle.std.specs.Prelude.{ℕ, ◌+◌, ◌-◌, ◌==◌, ◌||◌, ◌&&◌, Bool, true, false, List, [], ◌∷◌, ◌++◌, length, drop, take}
use Rattle.std.specs.Prelude.{slice_set}
use Rattle.race_records.specs.declared.event.{Event.Event, Op.{Op, TheVariants.{Go, Exit, Write, Send, Recv, Close}}}
use Rattle.race_records.specs.declared.event.Op.TheVariants.{Lock, Unlock, RLock, RUnlock, TryLock, TryRLock, TryFail}
use Rattle.race_records.specs.declared.event.Op.TheVariants.{OnceBegin, OnceEnd}
use Rattle.race_model.specs.Events.{is_exit, is_fault}
use Rattle.race_legal.specs.ReplayState.{GoroutinesState, ChannelsState, LocksState, OncesState, ReplayState, stack_in}
use Rattle.race_legal.specs.ReplayState.{queue_in, readers_in}

-- the run is over with main's exit, and with a fault
abbrev pub over_after : Bool → ℕ → Op → Bool
over_after over who o = over || (((who == 0) && is_exit o) || is_fault o)

-- the goroutine is started
abbrev pub with_started : GoroutinesState → ℕ → GoroutinesState
with_started t g = record { started = slice_set t.started g true; exited = t.exited; stacks = t.stacks }

-- the goroutine exits
abbrev pub with_exited : GoroutinesState → ℕ → GoroutinesState
with_exited t g = record { started = t.started; exited = slice_set t.exited g true; stacks = t.stacks }

-- the goroutine is in the functions of these onces
abbrev pub with_stack : GoroutinesState → ℕ → List ℕ → GoroutinesState
with_stack t g stack = record { started = t.started; exited = t.exited; stacks = slice_set t.stacks g stack }

-- the once is the innermost
abbrev pub with_entered : GoroutinesState → ℕ → ℕ → GoroutinesState
with_entered t g o = with_stack t g (stack_in t g ++ o ∷ [])

-- the innermost once is gone
abbrev pub with_left : GoroutinesState → ℕ → GoroutinesState
with_left t g = with_stack t g (take (length (stack_in t g) - 1) (stack_in t g))

-- a Go starts its goroutine, an Exit ends its own; an OnceBegin takes it into a function, an OnceEnd out of one
abbrev pub goroutines_after : GoroutinesState → ℕ → Op → GoroutinesState
goroutines_after t who (Go h) = with_started t h
goroutines_after t who Exit = with_exited t who
goroutines_after t who (OnceBegin o) = with_entered t who o
goroutines_after t who (OnceEnd o) = with_left t who
goroutines_after t who _ = t

-- a Write gives its variable a value
abbrev pub values_after : List ℕ → Op → List ℕ
values_after values (Write x v) = slice_set values x v
values_after values _ = values

-- these values wait in the channel
abbrev pub with_queue : ChannelsState → ℕ → List ℕ → ChannelsState
with_queue t c queue = record { capacities = t.capacities; closed = t.closed; queues = slice_set t.queues c queue }

-- the value waits behind the others
abbrev pub with_sent : ChannelsState → ℕ → ℕ → ChannelsState
with_sent t c v = with_queue t c (queue_in t c ++ v ∷ [])

-- the value that came first is gone
abbrev pub with_received : ChannelsState → ℕ → ChannelsState
with_received t c = with_queue t c (drop 1 (queue_in t c))

-- the channel is closed
abbrev pub with_closed : ChannelsState → ℕ → ChannelsState
with_closed t c = record { capacities = t.capacities; closed = slice_set t.closed c true; queues = t.queues }

-- a Send puts its value in, a Recv takes one out, a Close closes; a Meet hands its value over at once
abbrev pub channels_after : ChannelsState → Op → ChannelsState
channels_after t (Send c v) = with_sent t c v
channels_after t (Recv c v) = with_received t c
channels_after t (Close c) = with_closed t c
channels_after t _ = t

-- the lock is locked, or is not
abbrev pub with_held : LocksState → ℕ → Bool → LocksState
with_held t l held = record { held = slice_set t.held l held; readers = t.readers }

-- so many hold the lock for reading
abbrev pub with_readers : LocksState → ℕ → ℕ → LocksState
with_readers t l readers = record { held = t.held; readers = slice_set t.readers l readers }

-- a Lock and a TryLock lock, an Unlock unlocks; with an RLock and a TryRLock one more reads, with an RUnlock one less; a TryFail changes nothing
abbrev pub locks_after : LocksState → Op → LocksState
locks_after t (Lock l) = with_held t l true
locks_after t (Unlock l) = with_held t l false
locks_after t (RLock l) = with_readers t l (readers_in t l + 1)
locks_after t (RUnlock l) = with_readers t l (readers_in t l - 1)
locks_after t (TryLock l) = with_held t l true
locks_after t (TryRLock l) = with_readers t l (readers_in t l + 1)
locks_after t (TryFail l) = t
locks_after t _ = t

-- the function of the once began
abbrev pub with_begun : OncesState → ℕ → OncesState
with_begun t o = record { begun = slice_set t.begun o true; ended = t.ended }

-- it ended
abbrev pub with_ended : OncesState → ℕ → OncesState
with_ended t o = record { begun = t.begun; ended = slice_set t.ended o true }

-- an OnceBegin begins it, an OnceEnd ends it
abbrev pub onces_after : OncesState → Op → OncesState
onces_after t (OnceBegin o) = with_begun t o
onces_after t (OnceEnd o) = with_ended t o
onces_after t _ = t

-- the next state
abbrev pub after : ReplayState → Event → ReplayState
after k e = record k {
  len = k.len + 1;
  over = over_after k.over e.who e.op;
  goroutines = goroutines_after k.goroutines e.who e.op;
  values = values_after k.values e.op;
  channels = channels_after k.channels e.op;
  locks = locks_after k.locks e.op;
  onces = onces_after k.onces e.op;
}
