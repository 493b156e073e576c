-- The tests pass exactly where the memory model's words hold.
use Rattle.std.proofs.Common.{◌≡◌, ◌⊎◌, ◌↔◌, ℕ, ◌+◌, ◌==◌, ◌&&◌, ◌||◌, Bool, List, IsTrue, arith, take}
use Rattle.std.proofs.lemmas.Bool.Decides.{nat_tests}
use Rattle.race_records.specs.declared.event.{Event.Event, Op.{Op, TheVariants.{Go, Send, Recv, Meet, RecvClosed}}}
use Rattle.race_records.specs.declared.event.Op.TheVariants.{Lock, RLock, TryLock, TryRLock, OnceDone}
use Rattle.race_model.specs.{Events.{sends, receives, locks, unlocks, runlocks, count}, Order.SynchronizedInside}
use Rattle.race_model.specs.{Order.{IsSource, IsBeforeLock, IsLastUnlock}, Synchronized.{joins, is_source}}

pub joins_is : (who : ℕ) (o : Op) (g h : ℕ) → IsTrue (joins who o g h) ↔ SynchronizedInside who o g h
joins_is who (Go k) g h = one who g k h
  where
    one : (a b c d : ℕ) → IsTrue ((a == b) && (c == d)) ↔ ((a ≡ b) × (c ≡ d))
    one a b c d = grind (arith, nat_tests)
joins_is who (Meet r c v) g h = two who r g h
  where
    two : (who r g h : ℕ) → IsTrue (((who == g) && (r == h)) || ((r == g) && (who == h))) ↔ (((who ≡ g) × (r ≡ h)) ⊎ ((r ≡ g) × (who ≡ h)))
    two who r g h = grind (arith, nat_tests)
joins_is who _ g h = ((λ is. cc), (λ never. absurd never))

-- a test and an equation
with_equal : (a : Bool) (n m : ℕ) → IsTrue (a && (n == m)) ↔ (IsTrue a × (n ≡ m))
with_equal a n m = grind (arith, nat_tests)

-- an operation with the number k is among others, and k and more are the other's number
with_sum : (a : Bool) (n m more : ℕ) → IsTrue (a && (n + more == m)) ↔ ((k : ℕ) × (IsTrue a × (n ≡ k)) × (k + more ≡ m))
with_sum a n m more = grind (arith, nat_tests)

before_lock_is : (past : List Event) (i : ℕ) (s : Op) (l : ℕ)
    → IsTrue (unlocks l s || (runlocks l s && (count (locks l) (take i past) == count (locks l) past))) ↔ IsBeforeLock past i s l
before_lock_is past i s l = grind (arith, nat_tests)

pub source_is : (caps : ℕ → ℕ) (past : List Event) (i : ℕ) (s o : Op) → IsTrue (is_source caps past i s o) ↔ IsSource caps past i s o
source_is caps past i s (Recv c v) = with_equal (sends c s) (count (sends c) (take i past)) (count (receives c) past)
source_is caps past i s (Send c v) = with_sum (receives c s) (count (receives c) (take i past)) (count (sends c) past) (caps c)
source_is caps past i s (RecvClosed c) = ((λ is. is), (λ is. is))
source_is caps past i s (Lock l) = before_lock_is past i s l
source_is caps past i s (RLock l) = with_sum (unlocks l s) (count (unlocks l) (take i past)) (count (unlocks l) past) 1
source_is caps past i s (TryLock l) = before_lock_is past i s l
source_is caps past i s (TryRLock l) = with_sum (unlocks l s) (count (unlocks l) (take i past)) (count (unlocks l) past) 1
source_is caps past i s (OnceDone o) = ((λ is. is), (λ is. is))
source_is caps past i s _ = ((λ is. cc), (λ never. absurd never))
