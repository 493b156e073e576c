-- What a step needs of the next operation: not needed to understand a contract.
use Rattle.std.specs.Prelude.{ℕ, ◌≡◌, ◌≢◌, ◌<◌, ◌≤◌, ◌+◌, ◌^◌, length, List, Some}
use Rattle.race_records.specs.declared.event.Op.{Op, TheVariants.{Go, Send, Recv, Meet, RecvClosed, Close, Lock}}
use Rattle.race_records.specs.declared.event.Op.TheVariants.{Unlock, RLock, RUnlock, TryLock, TryRLock, OnceEnd}
use Rattle.race_records.specs.declared.event.Op.TheVariants.{OnceDone}
use Rattle.race_clock.specs.{ClockState.knows, ClocksState.{ClocksState, LockState, parts_of, lock_of, begin_of}}

-- there is a clock for each number that the operation names
abbrev pub OpHasClocks : ClocksState → Op → Type 0
OpHasClocks k (Go h) = h < length k.slots
OpHasClocks k (Meet r c v) = r < length k.slots
OpHasClocks k (Send c v) = c < length k.channels
OpHasClocks k (Recv c v) = c < length k.channels
OpHasClocks k (RecvClosed c) = c < length k.channels
OpHasClocks k (Close c) = c < length k.channels
OpHasClocks k (Lock l) = l < length k.locks
OpHasClocks k (Unlock l) = l < length k.locks
OpHasClocks k (RLock l) = l < length k.locks
OpHasClocks k (RUnlock l) = l < length k.locks
OpHasClocks k (TryLock l) = l < length k.locks
OpHasClocks k (TryRLock l) = l < length k.locks
OpHasClocks k (OnceEnd o) = o < length k.ends
OpHasClocks k (OnceDone o) = o < length k.ends
OpHasClocks k _ = Unit {0}

-- and one for who acts
abbrev pub HasClocks : ClocksState → ℕ → Op → Type 0
HasClocks k who o = (who < length k.slots) × OpHasClocks k o

-- who acts starts another, or meets another
abbrev pub IsApart : ℕ → Op → Type 0
IsApart who (Go h) = h ≢ who
IsApart who (Meet r c v) = r ≢ who
IsApart who _ = Unit {0}

-- the counts of those who take part fit, with one more
abbrev pub CountsFit : ClocksState → ℕ → Op → Type 0
CountsFit k who (Go h) = (parts_of k who + 1 < 2 ^ 32) × (parts_of k h + 1 < 2 ^ 32)
CountsFit k who (Meet r c v) = (parts_of k who + 1 < 2 ^ 32) × (parts_of k r + 1 < 2 ^ 32)
CountsFit k who _ = parts_of k who + 1 < 2 ^ 32

-- no count of the first clock is greater
abbrev pub KnowsAll : List ℕ → List ℕ → Type 0
KnowsAll c d = (h : ℕ) → knows c h ≤ knows d h

-- who has locked the lock since its last unlock knows by this clock what the unlocks had seen
abbrev pub KnowsUnlocks : LockState → ℕ → List ℕ → Type 0
KnowsUnlocks k g clock = k.locker ≡ Some g → KnowsAll k.unlocks clock

-- so it is where the operation is an unlock
abbrev pub OpKnowsUnlocks : ClocksState → ℕ → Op → Type 0
OpKnowsUnlocks k who (Unlock l) = KnowsUnlocks (lock_of k.locks l) who (begin_of k who)
OpKnowsUnlocks k who _ = Unit {0}
