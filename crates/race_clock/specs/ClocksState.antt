-- The clocks that a stamper keeps, and how an operation changes them.
use Rattle.std.specs.Prelude.{ℕ, if◌then◌else◌, ◌==◌, ◌+◌, ◌-◌, Bool, Option, Some, None, List, [], ◌∷◌, ◌++◌, length, drop, zero, suc}
use Rattle.std.specs.{Prelude.slice_set, List.slice_index_or}
use Rattle.race_records.specs.declared.event.Op.{Op, TheVariants.{Go, Read, Write, Send, Recv, Meet, RecvClosed, Close}}
use Rattle.race_records.specs.declared.event.Op.TheVariants.{Lock, Unlock, RLock, RUnlock, TryLock, TryRLock, TryFail}
use Rattle.race_records.specs.declared.event.Op.TheVariants.{OnceEnd, OnceDone}
use Rattle.race_clock.specs.ClockState.{joined, padded, with_count}

-- of a channel: the clocks of the sends whose values wait in the buffer, those of the receives whose room no send has
-- taken yet, and that of its close
pub record ChannelState : Type 0 where
  pub capacity : ℕ
  pub sent : List (List ℕ)
  pub freed : List (List ℕ)
  pub closed : List ℕ

-- of a lock: the clocks of its unlocks so far, of the last of them, and of its runlocks since the last lock; and who has locked it
-- since its last unlock
pub record LockState : Type 0 where
  pub unlocks : List ℕ
  pub last : List ℕ
  pub runlocks : List ℕ
  pub locker : Option ℕ

-- of a goroutine: its clock, and how many events it took part in
pub record ThreadClockState : Type 0 where
  pub clock : List ℕ
  pub parts : ℕ

-- all clocks
pub record ClocksState : Type 0 where
  -- by goroutine
  pub slots : List ThreadClockState
  pub channels : List ChannelState
  pub locks : List LockState
  -- by once: the clock of its end
  pub ends : List (List ℕ)

-- a goroutine, a channel and a lock that nothing is known of
abbrev pub no_slot : ThreadClockState
no_slot = record { clock = []; parts = 0 }

abbrev pub no_channel : ChannelState
no_channel = record { capacity = 0; sent = []; freed = []; closed = [] }

abbrev pub no_lock : LockState
no_lock = record { unlocks = []; last = []; runlocks = []; locker = None }

-- the entry of a number
abbrev pub slot_of : ClocksState → ℕ → ThreadClockState
slot_of k g = slice_index_or k.slots g no_slot

abbrev pub clock_of : ClocksState → ℕ → List ℕ
clock_of k g = (slot_of k g).clock

abbrev pub parts_of : ClocksState → ℕ → ℕ
parts_of k g = (slot_of k g).parts

abbrev pub channel_of : List ChannelState → ℕ → ChannelState
channel_of channels c = slice_index_or channels c no_channel

abbrev pub lock_of : List LockState → ℕ → LockState
lock_of locks l = slice_index_or locks l no_lock

abbrev pub end_of : List (List ℕ) → ℕ → List ℕ
end_of ends o = slice_index_or ends o []

-- the clock of g's begin in the next event, this begin included
abbrev pub begin_of : ClocksState → ℕ → List ℕ
begin_of k g = with_count (clock_of k g) g (parts_of k g + 1)

-- a send takes the room that a receive freed, and not room that was never used
abbrev pub is_used_up : ChannelState → Bool
is_used_up ch = length ch.sent + length ch.freed == ch.capacity

-- the first clock of a queue
abbrev pub front : List (List ℕ) → List ℕ
front queue = slice_index_or queue 0 []

-- what the objects hand to the operation that comes next
abbrev pub handed : ClocksState → Op → List ℕ
handed k (Recv c v) = front (channel_of k.channels c).sent
handed k (Send c v) = if is_used_up (channel_of k.channels c) then front (channel_of k.channels c).freed else []
handed k (RecvClosed c) = (channel_of k.channels c).closed
handed k (Lock l) = joined (lock_of k.locks l).unlocks (lock_of k.locks l).runlocks
handed k (RLock l) = (lock_of k.locks l).last
handed k (TryLock l) = joined (lock_of k.locks l).unlocks (lock_of k.locks l).runlocks
handed k (TryRLock l) = (lock_of k.locks l).last
handed k (TryFail l) = []
handed k (OnceDone o) = end_of k.ends o
handed k _ = []

-- a channel behind a send, a receive and a close, whose begin has the clock b
abbrev pub channel_sent : ChannelState → List ℕ → ChannelState
channel_sent ch b = record {
  capacity = ch.capacity;
  sent = ch.sent ++ b ∷ [];
  freed = if is_used_up ch then drop 1 ch.freed else ch.freed;
  closed = ch.closed;
}

abbrev pub channel_received : ChannelState → List ℕ → ChannelState
channel_received ch b = record {
  capacity = ch.capacity;
  sent = drop 1 ch.sent;
  freed = ch.freed ++ b ∷ [];
  closed = ch.closed;
}

abbrev pub channel_closed : ChannelState → List ℕ → ChannelState
channel_closed ch b = record {
  capacity = ch.capacity;
  sent = ch.sent;
  freed = ch.freed;
  closed = joined ch.closed b;
}

-- a lock after a lock by g, an unlock and a runlock
abbrev pub lock_locked : LockState → ℕ → LockState
lock_locked k g = record { unlocks = k.unlocks; last = k.last; runlocks = []; locker = Some g }

abbrev pub lock_unlocked : LockState → List ℕ → LockState
lock_unlocked k b = record { unlocks = joined k.unlocks b; last = b; runlocks = k.runlocks; locker = None }

abbrev pub lock_read_unlocked : LockState → List ℕ → LockState
lock_read_unlocked k b = record { unlocks = k.unlocks; last = k.last; runlocks = joined k.runlocks b; locker = k.locker }

-- the objects after an operation of g whose begin has the clock b
abbrev pub channels_after : List ChannelState → Op → List ℕ → List ChannelState
channels_after cs (Send c v) b = slice_set cs c (channel_sent (channel_of cs c) b)
channels_after cs (Recv c v) b = slice_set cs c (channel_received (channel_of cs c) b)
channels_after cs (Close c) b = slice_set cs c (channel_closed (channel_of cs c) b)
channels_after cs _ b = cs

abbrev pub locks_after : List LockState → ℕ → Op → List ℕ → List LockState
locks_after ls g (Lock l) b = slice_set ls l (lock_locked (lock_of ls l) g)
locks_after ls g (Unlock l) b = slice_set ls l (lock_unlocked (lock_of ls l) b)
locks_after ls g (RUnlock l) b = slice_set ls l (lock_read_unlocked (lock_of ls l) b)
locks_after ls g (TryLock l) b = slice_set ls l (lock_locked (lock_of ls l) g)
locks_after ls g (TryRLock l) b = ls
locks_after ls g (TryFail l) b = ls
locks_after ls g _ b = ls

abbrev pub ends_after : List (List ℕ) → Op → List ℕ → List (List ℕ)
ends_after es (OnceEnd o) b = slice_set es o (joined (end_of es o) b)
ends_after es _ b = es

-- a goroutine behind one event more, with this clock
abbrev pub next_slot : ClocksState → ℕ → List ℕ → ThreadClockState
next_slot k g c = record { clock = c; parts = parts_of k g + 1 }

-- two goroutines behind an event that both take part in
abbrev pub paired : ClocksState → ℕ → ℕ → List ℕ → List ℕ → ClocksState
paired k g h c d = record {
  slots = slice_set (slice_set k.slots g (next_slot k g c)) h (next_slot k h d);
  channels = k.channels;
  locks = k.locks;
  ends = k.ends;
}

-- the next state where g acts alone: its clock, and the objects
abbrev pub acted : ClocksState → ℕ → Op → List ℕ → ClocksState
acted k g o c = record {
  slots = slice_set k.slots g (next_slot k g c);
  channels = channels_after k.channels o (begin_of k g);
  locks = locks_after k.locks g o (begin_of k g);
  ends = ends_after k.ends o (begin_of k g);
}

-- what g and f have seen, with f's begin in the next event
abbrev pub both_seen : ClocksState → ℕ → ℕ → List ℕ
both_seen k g f = with_count (joined (clock_of k g) (clock_of k f)) f (parts_of k f + 1)

-- what a sender and its receiver have seen behind their Meet: the same
abbrev pub met : ClocksState → ℕ → ℕ → List ℕ
met k s r = with_count (with_count (joined (clock_of k s) (clock_of k r)) s (parts_of k s + 1)) r (parts_of k r + 1)

-- the next state. A goroutine's count of its own begins is right behind an access alone
abbrev pub after : ClocksState → ℕ → Op → ClocksState
-- the new goroutine has seen what its starter had
after k who (Go h) = paired k who h (clock_of k who) (both_seen k h who)
after k who (Meet r c v) = paired k who r (met k who r) (met k who r)
-- behind an access its goroutine's clock counts what its begin had seen, that begin not included
after k who (Read x v) = acted k who (Read x v) (with_count (clock_of k who) who (parts_of k who))
after k who (Write x v) = acted k who (Write x v) (with_count (clock_of k who) who (parts_of k who))
after k who o = acted k who o (joined (clock_of k who) (handed k o))

-- the queue with this clock in its last place
abbrev pub filled : List (List ℕ) → List ℕ → List (List ℕ)
filled queue c = slice_set queue (length queue - 1) c

-- before the first event
abbrev pub first_slot : ℕ → ThreadClockState
first_slot g = record { clock = padded [] (g + 1); parts = 0 }

abbrev pub first_slots : ℕ → List ThreadClockState
first_slots zero = []
first_slots (suc n) = first_slots n ++ first_slot n ∷ []

abbrev pub first_channel : ℕ → ChannelState
first_channel capacity = record { capacity = capacity; sent = []; freed = []; closed = [] }
