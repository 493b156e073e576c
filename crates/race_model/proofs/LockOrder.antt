-- In a legal list the locks and unlocks of a lock take turns, and the function of a once ends before it is found to have run.
use Rattle.std.proofs.Common.{◌≡◌, ◌<◌, ◌≤◌, ◌↔◌, if◌then◌else◌, ℕ, zero, suc, ◌+◌, ◌==◌, ◌&&◌, Bool, true, false, not}
use Rattle.std.proofs.Common.{List, [], ◌∷◌, ◌++◌, Option, Some, None, take, length, slice_get, refl, sym, ap, ◌∙◌}
use Rattle.std.proofs.{Common.{subst, inl, inr, arith, eqb-true, lt-ltb, ltb-true, IsTrue}, lemmas.Bool.cases_lt}
use Rattle.std.proofs.lemmas.Bool.{cases_order, both_ways, not-false, Decides.nat_tests}
use Rattle.std.proofs.lemmas.Option.{none-some, same_Some, slice_get_within}
use Rattle.race_records.specs.declared.event.{Event.Event, Op.{Op, TheVariants.{Lock, Unlock, RLock, TryLock}}}
use Rattle.race_records.specs.declared.event.Op.TheVariants.{TryRLock, OnceBegin, OnceEnd, OnceDone}
use Rattle.race_model.specs.{Events.{At, gives, locks, unlocks, rlocks, once_ends, count, IsKth}, State.is_held}
use Rattle.race_model.specs.{State.{is_ended, unended_once, innermost}, Legal.IsLegal}
use Rattle.race_model.proofs.{Indexes.{at_same, at_below, take_suc}, LastOf.{IsLast, last_of_is}, CountSteps.as_number}
use Rattle.race_model.proofs.{CountSteps.{count_push, count_up, count_below}, ChannelOrder.{RulesKept, kept_at}}

-- there are as many Locks of l as Unlocks, or one more
abbrev TakeTurns : ℕ → List Event → Type 0
TakeTurns l events = (count (unlocks l) events ≤ count (locks l) events) × (count (locks l) events ≤ count (unlocks l) events + 1)

held_less : (l : ℕ) (past : List Event) → is_held l past ≡ true → count (unlocks l) past < count (locks l) past
held_less l past is = ltb-true (count (unlocks l) past) (count (locks l) past) is

free_most : (l : ℕ) (past : List Event) → is_held l past ≡ false → count (locks l) past ≤ count (unlocks l) past
free_most l past is = grind (arith, nat_tests)

-- so it is of the lock of an equal number
free_as : (l m : ℕ) (past : List Event) → IsTrue (m == l) → is_held m past ≡ false → count (locks l) past ≤ count (unlocks l) past
free_as l m past same free = subst (λ m. count (locks m) past ≤ count (unlocks m) past) (eqb-true m l same) (free_most m past free)

-- what is locked was free, also for reading, and what is unlocked was locked
was_free : (caps : ℕ → ℕ) (l : ℕ) (past : List Event) (g : ℕ) (o : Op) → IsTrue (locks l o)
    → RulesKept caps past g o → count (locks l) past ≤ count (unlocks l) past
was_free caps l past g (Lock m) same kept = free_as l m past same (kept 0 (13, is_held m past) refl)
was_free caps l past g (TryLock m) same kept = free_as l m past same (kept 0 (13, is_held m past) refl)
was_free caps l past g _ same kept = cc

was_free_to_read : (caps : ℕ → ℕ) (l : ℕ) (past : List Event) (g : ℕ) (o : Op) → IsTrue (rlocks l o) → RulesKept caps past g o
    → count (locks l) past ≤ count (unlocks l) past
was_free_to_read caps l past g (RLock m) same kept = free_as l m past same (kept 0 (13, is_held m past) refl)
was_free_to_read caps l past g (TryRLock m) same kept = free_as l m past same (kept 0 (13, is_held m past) refl)
was_free_to_read caps l past g _ same kept = cc

was_held : (caps : ℕ → ℕ) (l : ℕ) (past : List Event) (g : ℕ) (o : Op) → IsTrue (unlocks l o)
    → RulesKept caps past g o → count (unlocks l) past < count (locks l) past
was_held caps l past g (Unlock m) same kept =
    subst (λ m. count (unlocks m) past < count (locks m) past) (eqb-true m l same) (held_less m past (not-false _ (kept 0 (15, not (is_held m past)) refl)))
was_held caps l past g _ same kept = cc

-- so they go on taking turns when m is locked
turns_by_lock : (l m : ℕ) (past : List Event) → is_held m past ≡ false → TakeTurns l past
    → (count (unlocks l) past + 0 ≤ count (locks l) past + as_number (m == l)) × (count (locks l) past + as_number (m == l) ≤ count (unlocks l) past + 0 + 1)
turns_by_lock l m past free (low, high) = go (m == l) refl
  where
    go : (b : Bool) → (m == l) ≡ b
        → (count (unlocks l) past + 0 ≤ count (locks l) past + as_number b) × (count (locks l) past + as_number b ≤ count (unlocks l) past + 0 + 1)
    go false other = (omega (arith, low), omega (arith, high))
    go true same = let most : count (locks l) past ≤ count (unlocks l) past = free_as l m past same free in
        (omega (arith, low), omega (arith, most))

-- and by each operation that breaks no rule
turns_by : (caps : ℕ → ℕ) (l : ℕ) (past : List Event) (g : ℕ) (o : Op) → RulesKept caps past g o → TakeTurns l past
    → (count (unlocks l) past + as_number (unlocks l o) ≤ count (locks l) past + as_number (locks l o))
    × (count (locks l) past + as_number (locks l o) ≤ count (unlocks l) past + as_number (unlocks l o) + 1)
turns_by caps l past g (Lock m) kept turns = turns_by_lock l m past (kept 0 (13, is_held m past) refl) turns
turns_by caps l past g (TryLock m) kept turns = turns_by_lock l m past (kept 0 (13, is_held m past) refl) turns
turns_by caps l past g (Unlock m) kept (low, high) = go (m == l) refl
  where
    go : (b : Bool) → (m == l) ≡ b
        → (count (unlocks l) past + as_number b ≤ count (locks l) past + 0) × (count (locks l) past + 0 ≤ count (unlocks l) past + as_number b + 1)
    go false other = (omega (arith, low), omega (arith, high))
    go true same = let held : count (unlocks l) past < count (locks l) past = was_held caps l past g (Unlock m) same kept in
        (omega (arith, held), omega (arith, high))
turns_by caps l past g _ kept (low, high) = (omega (arith, low), omega (arith, high))

-- a once whose function g is in hasn't ended
innermost_unended : (g o : ℕ) (past : List Event) → innermost g past ≡ Some o → is_ended o past ≡ false
innermost_unended g o past is = go (innermost g past) (last_of_is (λ e. unended_once g past e.who e.op) past) is
  where
    by : (b c : Bool) (p : ℕ) → is_ended p past ≡ c → (if b && not c then Some p else None) ≡ Some o → is_ended o past ≡ false
    by true false p unended chosen = subst (λ p. is_ended p past ≡ false) (same_Some p o chosen) unended
    by true true p ended chosen = absurd (none-some o chosen)
    by false c p which chosen = absurd (none-some o chosen)

    unended : (who : ℕ) (op : Op) → unended_once g past who op ≡ Some o → is_ended o past ≡ false
    unended who (OnceBegin p) given = by (who == g) (is_ended p past) p refl given
    unended who _ given = absurd (none-some o given)

    go : (answer : Option ℕ) → IsLast (λ e. unended_once g past e.who e.op) past answer → answer ≡ Some o → is_ended o past ≡ false
    go None none given = absurd (none-some o given)
    go (Some p) (i, last) given = unended last.element.who last.element.op (last.given ∙ given)

-- what a goroutine ends hasn't ended
was_unended : (caps : ℕ → ℕ) (o : ℕ) (past : List Event) (g : ℕ) (op : Op) → IsTrue (once_ends o op) → RulesKept caps past g op → is_ended o past ≡ false
was_unended caps o past g (OnceEnd p) same kept =
    subst (λ p. is_ended p past ≡ false) (eqb-true p o same) (by (innermost g past) refl (not-false _ (kept 0 (18, not (gives (innermost g past) p)) refl)))
  where
    by : (answer : Option ℕ) → innermost g past ≡ answer → IsTrue (gives answer p) → is_ended p past ≡ false
    by None is given = cc
    by (Some q) is given = innermost_unended g p past (is ∙ ap Some (eqb-true q p given))
was_unended caps o past g _ same kept = cc

module _ (caps : ℕ → ℕ) (events : List Event) (legal : IsLegal caps events) where
  turns_push : (l n : ℕ) (e : Event) → At events n e → TakeTurns l (take n events) → TakeTurns l (take n events ++ e ∷ [])
  turns_push l n e at is =
      let both = turns_by caps l (take n events) e.who e.op (kept_at caps events legal n e at) is in
      let locked : count (locks l) (take n events ++ e ∷ []) ≡ count (locks l) (take n events) + as_number (locks l e.op) =
      count_push (locks l) (take n events) e in
      let unlocked : count (unlocks l) (take n events ++ e ∷ []) ≡ count (unlocks l) (take n events) + as_number (unlocks l e.op) =
      count_push (unlocks l) (take n events) e in
      (omega (arith, both.0, locked, unlocked), omega (arith, both.1, locked, unlocked))

  turns : (l n : ℕ) → n ≤ length events → TakeTurns l (take n events)
  turns l zero le = (omega arith, omega arith)
  turns l (suc n) le = go (at_below events n le) (turns l n (omega arith))
    where
      go : (e : Event) × (slice_get events n ≡ Some e) → TakeTurns l (take n events) → TakeTurns l (take (suc n) events)
      go (e, at) is = subst (TakeTurns l) (sym (take_suc n events e at)) (turns_push l n e at is)

  turns_at : (l i : ℕ) (e : Event) → At events i e → TakeTurns l (take i events)
  turns_at l i e at = turns l i (let within : i < length events = slice_get_within events i e at in omega arith)

  -- the Unlocks of a lower number than a Lock's are those that stand before it
  pub unlock_order : (l n m i j : ℕ) (u k : Event) → At events i u → At events j k
      → IsKth (unlocks l) n events i u.op → IsKth (locks l) m events j k.op → n < m ↔ i < j
  unlock_order l n m i j u k atu atk (is_u, nu) (is_k, nk) = (there, back)
    where
      there : n < m → i < j
      there less = elim (cases_lt i j) [
        | inl up ↦ up
        | inr down ↦
            let fewer : count (unlocks l) (take j events) ≤ count (unlocks l) (take i events) = count_up (unlocks l) events j i down in
            let free : count (locks l) (take j events) ≤ count (unlocks l) (take j events) =
            was_free caps l (take j events) k.who k.op is_k (kept_at caps events legal j k atk) in
            absurd (omega (arith, less, fewer, free, nu, nk))
      ]

      back : i < j → n < m
      back up =
          let passed : count (unlocks l) (take i events) < count (unlocks l) (take j events) = count_below (unlocks l) events i j u atu is_u up in
          let low : count (unlocks l) (take j events) ≤ count (locks l) (take j events) = (turns_at l j k atk).0 in
          omega (arith, passed, low, nu, nk)

  -- as many Locks as Unlocks stand before an RLock
  pub rlock_between : (l i : ℕ) (e : Event) → At events i e → IsTrue (rlocks l e.op) → count (locks l) (take i events) ≡ count (unlocks l) (take i events)
  rlock_between l i e at is =
      let free : count (locks l) (take i events) ≤ count (unlocks l) (take i events) =
      was_free_to_read caps l (take i events) e.who e.op is (kept_at caps events legal i e at) in
      let low : count (unlocks l) (take i events) ≤ count (locks l) (take i events) = (turns_at l i e at).0 in
      omega (arith, free, low)

  -- the end of a once's function stands before each event that finds it ended
  pub end_first : (o i j : ℕ) (s r : Event) → At events i s → At events j r → IsTrue (once_ends o s.op) → r.op ≡ OnceDone o → i < j
  end_first o i j s r ats atr is_s is_r = elim (cases_order i j) [
    | inl same ↦ let one : s ≡ r = at_same events i s r ats (ap (slice_get events) same ∙ atr) in
        absurd (no_end (sym (ap (λ e. once_ends o e.op) one ∙ ap (once_ends o) is_r) ∙ is_s))
    | inr (inl up) ↦ up
    | inr (inr down) ↦ absurd (both_ways (is_ended o (take i events))
        (was_unended caps o (take i events) s.who s.op is_s (kept_at caps events legal i s ats)) (still down))
  ]
    where
      no_end : once_ends o (OnceDone o) ≡ true → ⊥
      no_end is = cc

      ended : is_ended o (take j events) ≡ true
      ended = not-false _ (subst (λ op. RulesKept caps (take j events) r.who op) is_r
          (kept_at caps events legal j r atr) 0 (19, not (is_ended o (take j events))) refl)

      still : j < i → is_ended o (take i events) ≡ true
      still down =
          let more : count (once_ends o) (take j events) ≤ count (once_ends o) (take i events) = count_up (once_ends o) events j i (omega arith) in
          let some : 0 < count (once_ends o) (take j events) = ltb-true 0 (count (once_ends o) (take j events)) ended in
          lt-ltb 0 (count (once_ends o) (take i events)) (omega (arith, more, some))
