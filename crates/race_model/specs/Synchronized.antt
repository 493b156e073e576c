-- The edges of Order as tests: they pass exactly where SynchronizedInside and IsSource hold, as proofs/SynchronizedTests shows.
use Rattle.std.specs.Prelude.{ℕ, ◌+◌, ◌==◌, ◌&&◌, ◌||◌, Bool, false, List, take}
use Rattle.race_records.specs.declared.event.{Event.Event, Op.{Op, TheVariants.{Go, Send, Recv, Meet, RecvClosed}}}
use Rattle.race_records.specs.declared.event.Op.TheVariants.{Lock, RLock, TryLock, TryRLock, OnceDone}
use Rattle.race_model.specs.Events.{sends, receives, closes, locks, unlocks, runlocks, once_ends, count}

-- in one event, in which goroutine who does o, g's begin is synchronized before h's end
abbrev pub joins : ℕ → Op → ℕ → ℕ → Bool
joins who (Go k) g h = (who == g) && (k == h)
joins who (Meet r c v) g h = ((who == g) && (r == h)) || ((r == g) && (who == h))
joins who _ g h = false

-- the operation s, at index i of the events past, is synchronized before the completion of o, the operation that comes next
abbrev pub is_source : (ℕ → ℕ) → List Event → ℕ → Op → Op → Bool
is_source caps past i s (Recv c v) = sends c s && (count (sends c) (take i past) == count (receives c) past)
is_source caps past i s (Send c v) = receives c s && (count (receives c) (take i past) + caps c == count (sends c) past)
is_source caps past i s (RecvClosed c) = closes c s
is_source caps past i s (Lock l) = unlocks l s || (runlocks l s && (count (locks l) (take i past) == count (locks l) past))
is_source caps past i s (RLock l) = unlocks l s && (count (unlocks l) (take i past) + 1 == count (unlocks l) past)
is_source caps past i s (TryLock l) = unlocks l s || (runlocks l s && (count (locks l) (take i past) == count (locks l) past))
is_source caps past i s (TryRLock l) = unlocks l s && (count (unlocks l) (take i past) + 1 == count (unlocks l) past)
is_source caps past i s (OnceDone o) = once_ends o s
is_source caps past i s _ = false
