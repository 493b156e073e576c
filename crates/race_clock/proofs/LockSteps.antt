-- The clocks of a lock, one event on.
use Rattle.std.proofs.Common.{◌≡◌, ℕ, ◌+◌, ◌<◌, ◌≤◌, Bool, true, false, Some, List, [], ◌∷◌, ◌++◌, take, length, refl, sym, subst, inl, inr}
use Rattle.std.proofs.{Common.{ap, ◌∙◌, arith, IsTrue, length-append}, lemmas.{List.take_all, Option.slice_get_within}}
use Rattle.race_records.specs.declared.event.{Event.Event, Op.{Op, TheVariants.{Lock, RLock}}}
use Rattle.race_model.specs.{Events.{At, count, IsKth, locks, unlocks, runlocks}, Order.IsSource, Known.SeenBy, Clocks.{SeenFrom, CountsFrom}}
use Rattle.race_model.proofs.{ClockSteps.CountsAt, CountSteps.{count_up, count_below}}
use Rattle.race_model.proofs.{ClockLemmas.{front_old, front_new}, SourceSteps.{from_none, from_either, from_same}}
use Rattle.race_model.proofs.{SourceSteps.{from_more, from_only, Agree}, Indexes.push_at, Reaching.who_takes_part}
use Rattle.race_model.proofs.SeenSteps.{seen_at_old, seen_grow, seen_brings}
use Rattle.race_clock.specs.{ClockState.{knows, joined}, ClocksState.{LockState, lock_locked, lock_unlocked}}
use Rattle.race_clock.{specs.{ClocksState.lock_read_unlocked, StandsFor.{StandsForLock, HasSeenUnlocks}}, proofs.ChannelSteps.count_one}
use Rattle.race_clock.proofs.ChannelSteps.{count_same, from_joined, all_same, all_more}

-- the last of a kind
abbrev pub IsLastOf : (Op → Bool) → List Event → ℕ → Op → Type 0
IsLastOf kind past i s = (n : ℕ) × IsKth kind n past i s × (n + 1 ≡ count kind past)

-- of one kind, behind the last of another
abbrev pub IsSince : (Op → Bool) → (Op → Bool) → List Event → ℕ → Op → Type 0
IsSince kind mark past i s = IsTrue (kind s) × (count mark (take i past) ≡ count mark past)

module _ (caps : ℕ → ℕ) (past : List Event) (e : Event) where
  -- the events before an event of the list are the same in the longer list
  front_count : (kind : Op → Bool) (k : ℕ) (s : Event) → At past k s → count kind (take k (past ++ e ∷ [])) ≡ count kind (take k past)
  front_count kind k s at = ap (count kind) (front_old past e k (let less : k < length past = slice_get_within past k s at in omega arith))

  whole_count : (kind : Op → Bool) → count kind (take (length past) (past ++ e ∷ [])) ≡ count kind past
  whole_count kind = ap (count kind) (front_new past e (length past) refl)

  -- the last of a kind, one event on
  pub last_same : (kind : Op → Bool) (c : List ℕ) → kind e.op ≡ false → CountsFrom caps past (IsLastOf kind past) (knows c)
      → CountsFrom caps (past ++ e ∷ []) (IsLastOf kind (past ++ e ∷ [])) (knows c)
  last_same kind c other k = from_same caps past e (IsLastOf kind past) (IsLastOf kind (past ++ e ∷ []))
      (knows c) agree (λ is. let of_kind : kind e.op ≡ true = is.1.0 in cc) k
    where
      agree : Agree caps past e (IsLastOf kind past) (IsLastOf kind (past ++ e ∷ []))
      agree k s at =
          let same : count kind (take k (past ++ e ∷ [])) ≡ count kind (take k past) = front_count kind k s at in
          let all : count kind (past ++ e ∷ []) ≡ count kind past = count_same kind past e other in
          (λ is. (is.0, (is.1.0, same ∙ is.1.1), is.2 ∙ sym all), λ is. (is.0, (is.1.0, sym same ∙ is.1.1), is.2 ∙ all))

  pub last_new : (kind : Op → Bool) (b : List ℕ) → kind e.op ≡ true → CountsAt caps (past ++ e ∷ []) (length past) e.who (knows b)
      → CountsFrom caps (past ++ e ∷ []) (IsLastOf kind (past ++ e ∷ [])) (knows b)
  last_new kind b is own = from_only caps past e (IsLastOf kind (past ++ e ∷ []))
      (knows b) none (count kind past, (is, whole_count kind), sym (count_one kind past e is)) own
    where
      none : (k : ℕ) (s : Event) → At past k s → IsLastOf kind (past ++ e ∷ []) k s.op → ⊥
      none k s at (n, (of_kind, number), end) =
          let same : count kind (take k (past ++ e ∷ [])) ≡ count kind (take k past) = front_count kind k s at in
          let all : count kind (past ++ e ∷ []) ≡ count kind past + 1 = count_one kind past e is in
          let below : count kind (take k past) < count kind (take (length past) past) =
          count_below kind past k (length past) s at of_kind (slice_get_within past k s at) in
          let whole : count kind (take (length past) past) ≡ count kind past = ap (count kind) (take_all (length past) past (omega arith)) in
          omega (arith, number, end, same, all, below, whole)

  -- those of a kind since a mark, one event on
  since_agrees : (kind mark : Op → Bool) → mark e.op ≡ false → Agree caps past e (IsSince kind mark past) (IsSince kind mark (past ++ e ∷ []))
  since_agrees kind mark unmarked k s at =
      let same : count mark (take k (past ++ e ∷ [])) ≡ count mark (take k past) = front_count mark k s at in
      let all : count mark (past ++ e ∷ []) ≡ count mark past = count_same mark past e unmarked in
      (λ is. (is.0, same ∙ is.1 ∙ sym all), λ is. (is.0, sym same ∙ is.1 ∙ all))

  pub since_same : (kind mark : Op → Bool) (c : List ℕ) → mark e.op ≡ false → kind e.op ≡ false → CountsFrom caps past (IsSince kind mark past) (knows c)
      → CountsFrom caps (past ++ e ∷ []) (IsSince kind mark (past ++ e ∷ [])) (knows c)
  since_same kind mark c unmarked other k =
      from_same caps past e (IsSince kind mark past) (IsSince kind mark (past ++ e ∷ [])) (knows c) (since_agrees kind mark unmarked)
      (λ is. let of_kind : kind e.op ≡ true = is.0 in cc) k

  pub since_more : (kind mark : Op → Bool) (c b : List ℕ) → mark e.op ≡ false → kind e.op ≡ true → CountsFrom caps past (IsSince kind mark past) (knows c)
      → CountsAt caps (past ++ e ∷ []) (length past) e.who (knows b)
      → CountsFrom caps (past ++ e ∷ []) (IsSince kind mark (past ++ e ∷ [])) (knows (joined c b))
  since_more kind mark c b unmarked is k own =
      from_joined caps (past ++ e ∷ []) (IsSince kind mark (past ++ e ∷ [])) c b
      (from_more caps past e (IsSince kind mark past) (IsSince kind mark (past ++ e ∷ [])) (knows c) (knows b) (since_agrees kind mark unmarked)
      (is, whole_count mark ∙ sym (count_same mark past e unmarked)) k own)

  pub since_mark : (kind mark : Op → Bool) → mark e.op ≡ true → CountsFrom caps (past ++ e ∷ []) (IsSince kind mark (past ++ e ∷ [])) (knows [])
  since_mark kind mark is = from_none caps (past ++ e ∷ []) (IsSince kind mark (past ++ e ∷ [])) (knows []) none (λ h. refl)
    where
      none : (k : ℕ) (s : Event) → At (past ++ e ∷ []) k s → IsSince kind mark (past ++ e ∷ []) k s.op → ⊥
      none k s at (of_kind, number) =
          let within : k < length (past ++ e ∷ []) = slice_get_within (past ++ e ∷ []) k s at in
          let long : length (past ++ e ∷ []) ≡ length past + 1 = length-append past (e ∷ []) in
          let up : count mark (take k (past ++ e ∷ [])) ≤ count mark (take (length past) (past ++ e ∷ [])) =
          count_up mark (past ++ e ∷ []) k (length past) (omega (arith, within, long)) in
          let whole : count mark (take (length past) (past ++ e ∷ [])) ≡ count mark past = whole_count mark in
          let all : count mark (past ++ e ∷ []) ≡ count mark past + 1 = count_one mark past e is in
          omega (arith, number, up, whole, all)

module _ (caps : ℕ → ℕ) (past : List Event) (l : ℕ) (k : LockState) (S : StandsForLock caps past l k) where
  -- what a lock hands to a lock
  pub hands_lock : CountsFrom caps past (λ i s. IsSource caps past i s (Lock l)) (knows (joined k.unlocks k.runlocks))
  hands_lock =
      from_joined caps past (λ i s. IsSource caps past i s (Lock l)) k.unlocks k.runlocks
      (from_either caps past (λ i s. IsTrue (unlocks l s)) (IsSince (runlocks l) (locks l) past)
      (knows k.unlocks) (knows k.runlocks) S.all_unlocks S.new_runlocks)

  -- and to an rlock
  pub hands_rlock : CountsFrom caps past (λ i s. IsSource caps past i s (RLock l)) (knows k.last)
  hands_rlock = S.last_unlock

  module _ (e : Event) where
    -- where no unlock comes, who has seen all of them has still
    seen_before : unlocks l e.op ≡ false → (i h : ℕ) → SeenFrom caps (past ++ e ∷ []) (λ j s. IsTrue (unlocks l s)) i h
        → SeenFrom caps past (λ j s. IsTrue (unlocks l s)) i h
    seen_before no_unlock i h (j, s, at, is, seen) = elim (push_at past e j s at) [
      | inl old ↦ (j, s, old, is, seen_at_old caps past e i h j s.who (slice_get_within past j s old) seen)
      | inr new ↦ let wrong : unlocks l e.op ≡ true = subst (λ (s : Event). unlocks l s.op ≡ true) (sym new.1) is in cc
    ]

    seen_same : unlocks l e.op ≡ false → (g : ℕ) → k.locker ≡ Some g → HasSeenUnlocks caps (past ++ e ∷ []) l g
    seen_same no_unlock g by i h seen = seen_grow caps past e i h g (S.seen g by i h (seen_before no_unlock i h seen))

    pub lock_same : unlocks l e.op ≡ false → locks l e.op ≡ false → runlocks l e.op ≡ false → StandsForLock caps (past ++ e ∷ []) l k
    lock_same no_unlock no_lock no_runlock = record {
      all_unlocks = all_same caps past e (unlocks l) k.unlocks S.all_unlocks no_unlock;
      last_unlock = last_same caps past e (unlocks l) k.last no_unlock S.last_unlock;
      new_runlocks = since_same caps past e (runlocks l) (locks l) k.runlocks no_lock no_runlock S.new_runlocks;
      seen = seen_same no_unlock;
    }

    -- who locks sees all of them
    seen_lock : unlocks l e.op ≡ false → ((j : ℕ) (s : Op) → IsTrue (unlocks l s) → IsSource caps past j s e.op)
        → (g : ℕ) → Some e.who ≡ Some g → HasSeenUnlocks caps (past ++ e ∷ []) l g
    seen_lock no_unlock sources g same i h seen = subst (λ g. SeenBy caps (past ++ e ∷ []) i h g) (let is : e.who ≡ g = cc in is)
        (go (seen_before no_unlock i h seen))
      where
        go : SeenFrom caps past (λ j s. IsTrue (unlocks l s)) i h → SeenBy caps (past ++ e ∷ []) i h e.who
        go (j, s, at, is, seen) = seen_brings caps past e i h e.who (who_takes_part e) (inr (inr (j, s, at, sources j s.op is, refl, seen)))

    pub lock_lock : unlocks l e.op ≡ false → locks l e.op ≡ true → ((j : ℕ) (s : Op) → IsTrue (unlocks l s) → IsSource caps past j s e.op)
        → StandsForLock caps (past ++ e ∷ []) l (lock_locked k e.who)
    lock_lock no_unlock is sources = record {
      all_unlocks = all_same caps past e (unlocks l) k.unlocks S.all_unlocks no_unlock;
      last_unlock = last_same caps past e (unlocks l) k.last no_unlock S.last_unlock;
      new_runlocks = since_mark caps past e (runlocks l) (locks l) is;
      seen = seen_lock no_unlock sources;
    }

    pub lock_unlock : (b : List ℕ) → unlocks l e.op ≡ true → locks l e.op ≡ false
        → runlocks l e.op ≡ false → CountsAt caps (past ++ e ∷ []) (length past) e.who (knows b)
        → StandsForLock caps (past ++ e ∷ []) l (lock_unlocked k b)
    lock_unlock b is no_lock no_runlock own = record {
      all_unlocks = all_more caps past e (unlocks l) k.unlocks S.all_unlocks b is own;
      last_unlock = last_new caps past e (unlocks l) b is own;
      new_runlocks = since_same caps past e (runlocks l) (locks l) k.runlocks no_lock no_runlock S.new_runlocks;
      seen = λ g none. cc;
    }

    pub lock_runlock : (b : List ℕ) → unlocks l e.op ≡ false → locks l e.op ≡ false
        → runlocks l e.op ≡ true → CountsAt caps (past ++ e ∷ []) (length past) e.who (knows b)
        → StandsForLock caps (past ++ e ∷ []) l (lock_read_unlocked k b)
    lock_runlock b no_unlock no_lock is own = record {
      all_unlocks = all_same caps past e (unlocks l) k.unlocks S.all_unlocks no_unlock;
      last_unlock = last_same caps past e (unlocks l) k.last no_unlock S.last_unlock;
      new_runlocks = since_more caps past e (runlocks l) (locks l) k.runlocks b no_lock is S.new_runlocks own;
      seen = seen_same no_unlock;
    }
