-- Which events are sources of an event of a list, and which operations can be one.
use Rattle.std.specs.Prelude.{ℕ, ◌+◌, ◌==◌, ◌||◌, ◌&&◌, Bool, true, false, List, take, slice_get, Some, None}
use Rattle.race_records.specs.declared.event.{Event.Event, Op.{Op, TheVariants.{Send, Recv, Close, Unlock, RUnlock}}}
use Rattle.race_records.specs.declared.event.Op.TheVariants.{TryLock, TryRLock, TryFail, OnceEnd}
use Rattle.race_model.specs.{Events.{unlocks, runlocks}, Synchronized.is_source}

-- an event of the operation can be a source
abbrev pub can_be_source : Op → Bool
can_be_source (Send c v) = true
can_be_source (Recv c v) = true
can_be_source (Close c) = true
can_be_source (Unlock l) = true
can_be_source (RUnlock l) = true
can_be_source (TryLock l) = false
can_be_source (TryRLock l) = false
can_be_source (TryFail l) = false
can_be_source (OnceEnd o) = true
can_be_source _ = false

-- the event at index i is synchronized before the completion of the event at index j
abbrev pub source_at : (ℕ → ℕ) → List Event → ℕ → ℕ → Bool
source_at caps events i j =
    elim (slice_get events i) [
      | Some s ↦ elim (slice_get events j) [ Some e ↦ is_source caps (take j events) i s.op e.op | None ↦ false ]
      | None ↦ false
    ]

-- by the numbers of two events: s, number n, unlocks l for a lock with the number m, since it is an unlock, or a runlock behind which there is no lock
abbrev pub is_before_lock : ℕ → Op → ℕ → ℕ → Bool
is_before_lock l s n m = unlocks l s || (runlocks l s && (n == m))

-- s is the last unlock before a read lock with the number m
abbrev pub is_last_unlock : ℕ → Op → ℕ → ℕ → Bool
is_last_unlock l s n m = unlocks l s && (n + 1 == m)
