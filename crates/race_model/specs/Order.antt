-- Which event happens before which. (The Go Memory Model, "Memory Model": sequenced before, synchronized before,
-- happens before; "Goroutine creation", "Goroutine destruction", "Channel communication", "Locks", "Once"; for the numbering of sends and
-- receives The Go Programming Language Specification, "Channel types": a channel is a first-in-first-out queue)
use Rattle.std.specs.Prelude.{ℕ, ◌≡◌, ◌<◌, ◌+◌, ◌⊎◌, IsTrue, List, take}
use Rattle.race_records.specs.declared.event.{Event.Event, Op.{Op, TheVariants.{Go, Send, Recv, Meet, RecvClosed}}}
use Rattle.race_records.specs.declared.event.Op.TheVariants.{Lock, RLock, TryLock, TryRLock, OnceDone}
use Rattle.race_model.specs.Events.{At, TakesPart, sends, receives, closes, locks, unlocks, runlocks, once_ends, count}
use Rattle.race_model.specs.Events.{IsKth}

-- the begin of goroutine g's part in the event at index i, and its end, which the memory model calls its completion
pub data Point : Type 0 where
  Begin : (i g : ℕ) → Point
  End : (i g : ℕ) → Point

-- p is sequenced before q: a part's begin before its end, and that end before the begin of each later part of the goroutine
abbrev pub SequencedBefore : List Event → Point → Point → Type 0
SequencedBefore events (Begin i g) (End j h) = (i ≡ j) × (g ≡ h) × TakesPart events i g
SequencedBefore events (End i g) (Begin j h) = (i < j) × (g ≡ h) × TakesPart events i g × TakesPart events j h
SequencedBefore events _ _ = ⊥

-- in one event, in which goroutine who does o: g's begin is synchronized before h's end
abbrev pub SynchronizedInside : ℕ → Op → ℕ → ℕ → Type 0
-- a go statement before the start of the new goroutine, which is that goroutine's part in the Go
SynchronizedInside who (Go k) g h = (who ≡ g) × (k ≡ h)
-- on an unbuffered channel the send before the completion of the receive, and the receive before the completion of the send
SynchronizedInside who (Meet r c v) g h = ((who ≡ g) × (r ≡ h)) ⊎ ((r ≡ g) × (who ≡ h))
SynchronizedInside who _ g h = ⊥

-- s, at index i of the events past, unlocks l for a Lock that comes next: s is an Unlock, or an RUnlock behind which there is no Lock of l in past
abbrev pub IsBeforeLock : List Event → ℕ → Op → ℕ → Type 0
IsBeforeLock past i s l = IsTrue (unlocks l s) ⊎ (IsTrue (runlocks l s) × (count (locks l) (take i past) ≡ count (locks l) past))

-- s, at index i of the events past, is the last Unlock of l in past
abbrev pub IsLastUnlock : List Event → ℕ → Op → ℕ → Type 0
IsLastUnlock past i s l = (k : ℕ) × IsKth (unlocks l) k past i s × (k + 1 ≡ count (unlocks l) past)

-- the operation s, at index i of the events past, is synchronized before the completion of o, the operation that comes next
abbrev pub IsSource : (ℕ → ℕ) → List Event → ℕ → Op → Op → Type 0
-- the kth send on a channel before the completion of the kth receive from it, since values are received in the order in which they are sent
IsSource caps past i s (Recv c v) = IsKth (sends c) (count (receives c) past) past i s
-- the kth receive from a channel before the completion of the send numbered k plus the capacity
IsSource caps past i s (Send c v) = (k : ℕ) × IsKth (receives c) k past i s × (k + caps c ≡ count (sends c) past)
-- the closing of a channel before each receive that returns because it is closed
IsSource caps past i s (RecvClosed c) = IsTrue (closes c s)
-- each Unlock of a lock before each later Lock of it, and each RUnlock before the next Lock
IsSource caps past i s (Lock l) = IsBeforeLock past i s l
-- the last Unlock of a lock that stands before an RLock, before that RLock
IsSource caps past i s (RLock l) = IsLastUnlock past i s l
-- a TryLock that succeeded is as a Lock, and a TryRLock that succeeded as an RLock; a TryFail has no edge. ("An unsuccessful call has no
-- synchronizing effect at all.")
IsSource caps past i s (TryLock l) = IsBeforeLock past i s l
IsSource caps past i s (TryRLock l) = IsLastUnlock past i s l
-- the end of a once's function before each return that finds it ended
IsSource caps past i s (OnceDone o) = IsTrue (once_ends o s)
IsSource caps past i s _ = ⊥

-- p is synchronized before q, always from a begin to an end: inside one event, or from a source among the events before
abbrev pub SynchronizedBefore : (ℕ → ℕ) → List Event → Point → Point → Type 0
SynchronizedBefore caps events (Begin i g) (End j h) =
    (e : Event) × At events j e
    × (((i ≡ j) × SynchronizedInside e.who e.op g h)
    ⊎ ((s : Event) × At (take j events) i s × IsSource caps (take j events) i s.op e.op × (s.who ≡ g) × (e.who ≡ h)))
SynchronizedBefore caps events _ _ = ⊥

-- one step: p is sequenced before q, or synchronized before q
abbrev pub Step : (ℕ → ℕ) → List Event → Point → Point → Type 0
Step caps events p q = SequencedBefore events p q ⊎ SynchronizedBefore caps events p q

-- p reaches q in one step or more: the transitive closure, not reflexive
pub data Reaches (caps : ℕ → ℕ) (events : List Event) : Point → Point → Type 0 where
  one_step : {p q : Point} → Step caps events p q → Reaches caps events p q
  then_step : {p q r : Point} → Reaches caps events p q → Step caps events q r → Reaches caps events p r

-- event i happens before event j: i's end reaches j's begin, each for the goroutine whose event it is; meant for accesses
abbrev pub HappensBefore : (ℕ → ℕ) → List Event → ℕ → ℕ → Type 0
HappensBefore caps events i j =
    (a : Event) × (b : Event) × At events i a × At events j b × Reaches caps events (End i a.who) (Begin j b.who)
