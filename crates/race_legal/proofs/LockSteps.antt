-- The table of locks, one event on.
use Rattle.std.proofs.Common.{◌≡◌, ℕ, ◌+◌, ◌-◌, ◌<◌, ◌==◌, nat_lt, length, Bool, true, false, if◌then◌else◌, refl, sym}
use Rattle.std.proofs.{Common.{ap, ◌∙◌, arith}, lemmas.Bool.{eqb-true, not-false, Decides.nat_tests}}
use Rattle.race_records.specs.declared.event.Op.{Op, TheVariants.{Lock, Unlock, RLock, RUnlock, TryLock, TryRLock}}
use Rattle.race_records.specs.declared.event.Op.TheVariants.{TryFail}
use Rattle.race_model.{specs.Events.{locks, unlocks, rlocks, runlocks}, proofs.CountSteps.as_number}
use Rattle.race_legal.specs.ReplayState.{LocksState, ReplayState, held_in, readers_in}
use Rattle.race_legal.specs.{After.{with_held, with_readers, locks_after}, RulesKept.op_rules_in}
use Rattle.race_legal.proofs.{TableSteps.get_or-set, ChannelSteps.NoneBroken}

-- a lock that is found free is locked behind it
locked_step : (t : LocksState) (p l n m : ℕ) → l < length t.held → held_in t p ≡ false → n ≡ m + as_number (held_in t l)
    → n + as_number (p == l) ≡ (m + 0) + as_number (held_in (with_held t p true) l)
locked_step t p l n m less free is = rw (get_or-set t.held p l true false less) (go (p == l) (λ same. ap (held_in t) (sym (eqb-true p l same)) ∙ free))
  where
    go : (b : Bool) → (b ≡ true → held_in t l ≡ false) → n + as_number b ≡ (m + 0) + as_number (if b then true else held_in t l)
    go true free = let none : as_number (held_in t l) ≡ 0 = ap as_number (free refl) in omega (arith, is, none)
    go false free = omega (arith, is)

-- with one reader more there is one more
read_step : (t : LocksState) (p l n m : ℕ) → l < length t.readers → n ≡ m + readers_in t l
    → n + as_number (p == l) ≡ (m + 0) + readers_in (with_readers t p (readers_in t p + 1)) l
read_step t p l n m less is = rw (get_or-set t.readers p l (readers_in t p + 1) 0 less) (go (p == l) (λ same. ap (readers_in t) (eqb-true p l same)))
  where
    go : (b : Bool) → (b ≡ true → readers_in t p ≡ readers_in t l) → n + as_number b ≡ (m + 0) + (if b then readers_in t p + 1 else readers_in t l)
    go true same = let there : readers_in t p ≡ readers_in t l = same refl in omega (arith, is, there)
    go false same = omega (arith, is)

-- a Lock or a TryLock that breaks no rule finds the lock free, an Unlock finds it locked, and nothing else changes which are locked
pub held_step : (k : ReplayState) (who : ℕ) (o : Op) (l n m : ℕ) → l < length k.locks.held
    → NoneBroken (op_rules_in k who o) → n ≡ m + as_number (held_in k.locks l)
    → n + as_number (locks l o) ≡ (m + as_number (unlocks l o)) + as_number (held_in (locks_after k.locks o) l)
held_step k who (Lock p) l n m less kept is = locked_step k.locks p l n m less kept.0 is
held_step k who (TryLock p) l n m less kept is = locked_step k.locks p l n m less kept.0 is
held_step k who (Unlock p) l n m less kept is =
    rw (get_or-set k.locks.held p l false false less)
    (go (p == l) (λ same. ap (held_in k.locks) (sym (eqb-true p l same)) ∙ not-false (held_in k.locks p) kept.0))
  where
    go : (b : Bool) → (b ≡ true → held_in k.locks l ≡ true) → n + 0 ≡ (m + as_number b) + as_number (if b then false else held_in k.locks l)
    go true locked = let one : as_number (held_in k.locks l) ≡ 1 = ap as_number (locked refl) in omega (arith, is, one)
    go false locked = omega (arith, is)
held_step k who (RLock p) l n m less kept is = omega (arith, is)
held_step k who (RUnlock p) l n m less kept is = omega (arith, is)
held_step k who (TryRLock p) l n m less kept is = omega (arith, is)
held_step k who (TryFail p) l n m less kept is = omega (arith, is)
held_step k who _ l n m less kept is = omega (arith, is)

-- with an RLock or a TryRLock there is one reader more, with an RUnlock that breaks no rule one less, and nothing else changes how many there are
pub readers_step : (k : ReplayState) (who : ℕ) (o : Op) (l n m : ℕ)
    → l < length k.locks.readers → NoneBroken (op_rules_in k who o) → n ≡ m + readers_in k.locks l
    → n + as_number (rlocks l o) ≡ (m + as_number (runlocks l o)) + readers_in (locks_after k.locks o) l
readers_step k who (RLock p) l n m less kept is = read_step k.locks p l n m less is
readers_step k who (TryRLock p) l n m less kept is = read_step k.locks p l n m less is
readers_step k who (RUnlock p) l n m less kept is =
    rw (get_or-set k.locks.readers p l (readers_in k.locks p - 1) 0 less) (go (p == l) (λ same. ap (readers_in k.locks) (eqb-true p l same)))
  where
    some : nat_lt 0 (readers_in k.locks p) ≡ true
    some = not-false (nat_lt 0 (readers_in k.locks p)) kept.0

    go : (b : Bool) → (b ≡ true → readers_in k.locks p ≡ readers_in k.locks l)
        → n + 0 ≡ (m + as_number b) + (if b then readers_in k.locks p - 1 else readers_in k.locks l)
    go true same =
        let there : readers_in k.locks p ≡ readers_in k.locks l = same refl in
        let more : 0 < readers_in k.locks p = grind (arith, nat_tests) in
        omega (arith, is, there, more)
    go false same = omega (arith, is)
readers_step k who (Lock p) l n m less kept is = omega (arith, is)
readers_step k who (Unlock p) l n m less kept is = omega (arith, is)
readers_step k who (TryLock p) l n m less kept is = omega (arith, is)
readers_step k who (TryFail p) l n m less kept is = omega (arith, is)
readers_step k who _ l n m less kept is = omega (arith, is)
