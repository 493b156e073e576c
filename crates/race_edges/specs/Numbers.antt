-- The numbers by which operations of a kind are matched: the kth send with the kth receive, an RLock or a TryRLock with the last Unlock before it.
use Rattle.std.specs.Prelude.{ℕ, ◌≡◌, ◌<◌, Bool, false, List, length, take, slice_get, Some, None}
use Rattle.std.specs.List.{slice_index_or}
use Rattle.race_records.specs.declared.event.{Event.Event, Op.{Op, TheVariants.{Send, Recv, Lock, Unlock, RLock}}}
use Rattle.race_records.specs.declared.event.Op.TheVariants.{RUnlock, TryLock, TryRLock, TryFail}
use Rattle.race_model.specs.Events.{sends, receives, locks, unlocks, count}

-- the operations among which o has its number
abbrev pub counts : Op → Op → Bool
counts (Send c v) = sends c
counts (Recv c v) = receives c
counts (Lock l) = locks l
counts (RUnlock l) = locks l
counts (Unlock l) = unlocks l
counts (RLock l) = unlocks l
counts (TryLock l) = locks l
counts (TryRLock l) = unlocks l
counts (TryFail l) = λ o. false
counts _ = λ o. false

-- how many of them stand before the event at index i
abbrev pub number_at : List Event → ℕ → ℕ
number_at events i = elim (slice_get events i) [ Some e ↦ count (counts e.op) (take i events) | None ↦ 0 ]

-- the numbers of the events, in order
pub record AreNumbers (events : List Event) (numbers : List ℕ) : Type 0 where
  pub len : length numbers ≡ length events
  pub each : (i : ℕ) → i < length events → slice_index_or numbers i 0 ≡ number_at events i
