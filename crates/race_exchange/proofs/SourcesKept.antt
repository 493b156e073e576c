-- The sources of an event, where two events that are apart have changed places.
use Rattle.std.proofs.Common.{◌≡◌, ℕ, zero, suc, ◌+◌, ◌-◌, ◌<◌, Bool, true, false, List, [], ◌∷◌, ◌++◌, Some, length, take, refl, sym, ap, ◌∙◌, subst}
use Rattle.std.proofs.{Common.{inl, inr, arith, slice_get}, Math.Seq.{take-append_seam, take-append-add}}
use Rattle.std.proofs.lemmas.{List.take-append-le, Option.slice_get_within}
use Rattle.race_records.specs.declared.event.{Event.Event, Op.{Op, TheVariants.{Send, Recv, RecvClosed}}}
use Rattle.race_records.specs.declared.event.Op.TheVariants.{Lock, RLock, TryLock, TryRLock, OnceDone}
use Rattle.race_model.specs.Events.{At, sends, receives, locks, unlocks, count}
use Rattle.race_model.specs.Order.{IsSource, IsBeforeLock, IsLastUnlock}
use Rattle.race_model.proofs.{Indexes.{at_same, take_within, push_at, append_at_old}, CountSteps.{as_number, count_cons}}
use Rattle.race_exchange.specs.Independent.{Thing, OfChannel, OfLock, OfOnce, thing_of}
use Rattle.race_exchange.proofs.{Apart.{Apart, apart_other_way, both_read}, Exchanged.count_exchanged, Unseen.count_kept}
use Rattle.race_exchange.proofs.OperationKinds.{Changes, unchanged, sends_on, receives_on, closes_on, locks_on, unlocks_on}
use Rattle.race_exchange.proofs.OperationKinds.{runlocks_on, ends_on}
use Rattle.race_exchange.proofs.Moved.{moved, IsMoved, moved_is, moved_earlier, at_moved, at_first, at_second}

-- all operations of the kind are on the thing, and no reads
abbrev pub AllChange : Thing → (Op → Bool) → Type 0
AllChange t kind = (q : Op) → kind q ≡ true → Changes q t

-- what doesn't collide with an operation on the thing isn't of the kind
not_of_kind : (a b : Event) → Apart a b → (t : Thing) (kind : Op → Bool) → AllChange t kind → thing_of a.op ≡ Some t → kind b.op ≡ false
not_of_kind a b apart t kind all on_a = unchanged b.op a.op t (kind b.op) (apart_other_way a b apart).no_thing on_a (all b.op)

-- the counts that decide whether s, at i of past or k of other, is a source of o are the same
pub record HasSameCounts (past other : List Event) (i k : ℕ) (s o : Op) : Type 0 where
  pub whole : (t : Thing) (kind : Op → Bool) → AllChange t kind → thing_of o ≡ Some t → count kind past ≡ count kind other
  pub front : (t : Thing) (kind : Op → Bool) → AllChange t kind → thing_of s ≡ Some t → count kind (take i past) ≡ count kind (take k other)

before_lock_kept : (past other : List Event) (i k : ℕ) (s o : Op) (l : ℕ) → thing_of o ≡ Some (OfLock l) → HasSameCounts past other i k s o
    → IsBeforeLock past i s l → IsBeforeLock other k s l
before_lock_kept past other i k s o l on same (inl is) = inl is
before_lock_kept past other i k s o l on same (inr (is, number)) = inr (
  is,
  sym (same.front (OfLock l) (locks l) (locks_on l) (runlocks_on l s is).0) ∙ (number ∙ same.whole (OfLock l) (locks l) (locks_on l) on),
)

last_unlock_kept : (past other : List Event) (i k : ℕ) (s o : Op) (l : ℕ) → thing_of o ≡ Some (OfLock l) → HasSameCounts past other i k s o
    → IsLastUnlock past i s l → IsLastUnlock other k s l
last_unlock_kept past other i k s o l on same (m, (is, number), last) = (
  m,
  (is, sym (same.front (OfLock l) (unlocks l) (unlocks_on l) (unlocks_on l s is).0) ∙ number),
  last ∙ same.whole (OfLock l) (unlocks l) (unlocks_on l) on,
)

-- so a source is one
pub source_kept : (caps : ℕ → ℕ) (past other : List Event) (i k : ℕ) (s o : Op) → HasSameCounts past other i k s o
    → IsSource caps past i s o → IsSource caps other k s o
source_kept caps past other i k s (Recv c v) same (is, number) = (
  is,
  sym (same.front (OfChannel c) (sends c) (sends_on c) (sends_on c s is).0)
      ∙ (number ∙ same.whole (OfChannel c) (receives c) (receives_on c) refl),
)
source_kept caps past other i k s (Send c v) same (m, (is, number), room) = (
  m,
  (is, sym (same.front (OfChannel c) (receives c) (receives_on c) (receives_on c s is).0) ∙ number),
  room ∙ same.whole (OfChannel c) (sends c) (sends_on c) refl,
)
source_kept caps past other i k s (RecvClosed c) same is = is
source_kept caps past other i k s (Lock l) same is = before_lock_kept past other i k s (Lock l) l refl same is
source_kept caps past other i k s (RLock l) same is = last_unlock_kept past other i k s (RLock l) l refl same is
source_kept caps past other i k s (TryLock l) same is = before_lock_kept past other i k s (TryLock l) l refl same is
source_kept caps past other i k s (TryRLock l) same is = last_unlock_kept past other i k s (TryRLock l) l refl same is
source_kept caps past other i k s (OnceDone o) same is = is
source_kept caps past other i k s _ same never = absurd never

-- both operations are on one thing, and s is no read
abbrev pub AreOnOne : Op → Op → Type 0
AreOnOne s o = (t : Thing) × Changes s t × (thing_of o ≡ Some t)

before_lock_on : (past : List Event) (i : ℕ) (s : Op) (l : ℕ) → IsBeforeLock past i s l → Changes s (OfLock l)
before_lock_on past i s l (inl is) = unlocks_on l s is
before_lock_on past i s l (inr (is, number)) = runlocks_on l s is

-- a source is on the thing that its target is on
pub source_on : (caps : ℕ → ℕ) (past : List Event) (i : ℕ) (s o : Op) → IsSource caps past i s o → AreOnOne s o
source_on caps past i s (Recv c v) (is, number) = (OfChannel c, sends_on c s is, refl)
source_on caps past i s (Send c v) (m, (is, number), room) = (OfChannel c, receives_on c s is, refl)
source_on caps past i s (RecvClosed c) is = (OfChannel c, closes_on c s is, refl)
source_on caps past i s (Lock l) is = (OfLock l, before_lock_on past i s l is, refl)
source_on caps past i s (RLock l) (m, (is, number), last) = (OfLock l, unlocks_on l s is, refl)
source_on caps past i s (TryLock l) is = (OfLock l, before_lock_on past i s l is, refl)
source_on caps past i s (TryRLock l) (m, (is, number), last) = (OfLock l, unlocks_on l s is, refl)
source_on caps past i s (OnceDone o) is = (OfOnce o, ends_on o s is, refl)
source_on caps past i s _ never = absurd never

-- those before s count as before, unless s is one of the two and the other is of the kind
count_before : (kind : Op → Bool) (before rest : List Event) (a b : Event) (i : ℕ) (s : Event) → At (before ++ a ∷ b ∷ rest) i s
    → (a ≡ s → kind b.op ≡ false) → (b ≡ s → kind a.op ≡ false)
    → count kind (take i (before ++ a ∷ b ∷ rest)) ≡ count kind (take (moved (length before) i) (before ++ b ∷ a ∷ rest))
count_before kind [] rest a b zero s at first second =
    let same : a ≡ s = cc in let none : as_number (kind b.op) ≡ 0 = ap as_number (first same) in
    sym (count_cons kind b [] ∙ ap (λ n. n + 0) none)
count_before kind [] rest a b (suc zero) s at first second =
    let same : b ≡ s = cc in let none : as_number (kind a.op) ≡ 0 = ap as_number (second same) in
    count_cons kind a [] ∙ ap (λ n. n + 0) none
count_before kind [] rest a b (suc (suc i)) s at first second = count_exchanged [] a b (take i rest) (λ e. kind e.op)
count_before kind (e ∷ before) rest a b zero s at first second = refl
count_before kind (e ∷ before) rest a b (suc i) s at first second =
    count_cons kind e (take i (before ++ a ∷ b ∷ rest))
    ∙ (ap (λ n. as_number (kind e.op) + n) (count_before kind before rest a b i s at first second)
    ∙ sym (count_cons kind e (take (moved (length before) i) (before ++ b ∷ a ∷ rest))))

-- s stands at i of the events past and is a source of o
abbrev pub StandsAsSource : (ℕ → ℕ) → List Event → ℕ → Event → Op → Type 0
StandsAsSource caps past i s o = At past i s × IsSource caps past i s.op o

stands_as : (caps : ℕ → ℕ) (past other : List Event) (i k : ℕ) (s : Event) (o : Op) → past ≡ other → i ≡ k → StandsAsSource caps past i s o
    → StandsAsSource caps other k s o
stands_as caps past other i k s o front same is =
    subst (λ k. StandsAsSource caps other k s o) same (subst (λ past. StandsAsSource caps past i s o) front is)

module _ (caps : ℕ → ℕ) (before rest : List Event) (a b : Event) (apart : Apart a b) where
  -- what stands before s doesn't change
  front_old : (e : Event) (i : ℕ) (s : Event) → At before i s → take i (before ++ e ∷ []) ≡ take i before
  front_old e i s at = let less : i < length before = slice_get_within before i s at in take-append-le i before (e ∷ []) (omega (arith, less))

  -- b comes before a: that is no source of a, and counts among none
  with_more : (i : ℕ) (s : Event) → StandsAsSource caps before i s a.op → StandsAsSource caps (before ++ b ∷ []) i s a.op
  with_more i s (at, is) = (
    append_at_old before (b ∷ []) i s at,
    source_kept caps before (before ++ b ∷ []) i i s.op a.op (record {
      whole = λ t kind all on_a. sym (count_kept kind before b (not_of_kind a b apart t kind all on_a));
      front = λ t kind all on_s. ap (count kind) (sym (front_old b i s at));
    }) is,
  )

  -- a comes before b no more
  with_less : (i : ℕ) (s : Event) → StandsAsSource caps (before ++ a ∷ []) i s b.op → StandsAsSource caps before i s b.op
  with_less i s (at, is) = elim (push_at before a i s at) [
    | inl old ↦ (
      old,
      source_kept caps (before ++ a ∷ []) before i i s.op b.op (record {
        whole = λ t kind all on_b. count_kept kind before a (not_of_kind b a (apart_other_way a b apart) t kind all on_b);
        front = λ t kind all on_s. ap (count kind) (front_old a i s old);
      }) is,
    )
    | inr new ↦ absurd (never (source_on caps (before ++ a ∷ []) i s.op b.op is) (sym new.1))
  ]
    where
      never : AreOnOne s.op b.op → s ≡ a → ⊥
      never (t, changes, on_b) same =
          let of_a : Changes a.op t = subst (λ (s : Event). Changes s.op t) same changes in
          both_read a.op b.op t apart.no_thing of_a.0 on_b of_a.1

  -- both stand before what comes next
  with_both : (r : List Event) (i : ℕ) (s : Event) (o : Op) → StandsAsSource caps (before ++ a ∷ b ∷ r) i s o
      → StandsAsSource caps (before ++ b ∷ a ∷ r) (moved (length before) i) s o
  with_both r i s o (at, is) = (
    at_moved before r a b i s at,
    source_kept caps (before ++ a ∷ b ∷ r) (before ++ b ∷ a ∷ r) i (moved (length before) i) s.op o (record {
      whole = λ t kind all on_o. count_exchanged before a b r (λ e. kind e.op);
      front = λ t kind all on_s. count_before kind before r a b i s at
          (λ same. not_of_kind a b apart t kind all (subst (λ (s : Event). thing_of s.op ≡ Some t) (sym same) on_s))
          (λ same. not_of_kind b a (apart_other_way a b apart) t kind all (subst (λ (s : Event). thing_of s.op ≡ Some t) (sym same) on_s));
    }) is,
  )

  abbrev listed : List Event
  listed = before ++ a ∷ b ∷ rest

  abbrev turned : List Event
  turned = before ++ b ∷ a ∷ rest

  -- what stands before j, by where j is
  front_earlier : (c d : Event) (j : ℕ) → j < length before → take j (before ++ c ∷ d ∷ rest) ≡ take j before
  front_earlier c d j less = take-append-le j before (c ∷ d ∷ rest) (omega arith)

  front_first : (c d : Event) (j : ℕ) → j ≡ length before → take j (before ++ c ∷ d ∷ rest) ≡ before
  front_first c d j is = ap (λ j. take j (before ++ c ∷ d ∷ rest)) is ∙ take-append_seam before (c ∷ d ∷ rest)

  front_second : (c d : Event) (j : ℕ) → j ≡ length before + 1 → take j (before ++ c ∷ d ∷ rest) ≡ before ++ c ∷ []
  front_second c d j is = ap (λ j. take j (before ++ c ∷ d ∷ rest)) is ∙ take-append-add before (c ∷ d ∷ rest) 1

  front_later : (c d : Event) (j k : ℕ) → j ≡ length before + suc (suc k) → take j (before ++ c ∷ d ∷ rest) ≡ before ++ c ∷ d ∷ take k rest
  front_later c d j k is = ap (λ j. take j (before ++ c ∷ d ∷ rest)) is ∙ take-append-add before (c ∷ d ∷ rest) (suc (suc k))

  -- what was a source of the event at j still is one
  pub source_moved : (i j : ℕ) (e s : Event) → At listed j e → StandsAsSource caps (take j listed) i s e.op
      → StandsAsSource caps (take (moved (length before) j) turned) (moved (length before) i) s e.op
  source_moved i j e s at is = go (moved (length before) j) (moved_is (length before) j)
    where
      under : i < j
      under = take_within j listed i s is.0

      stays : i < length before → i ≡ moved (length before) i
      stays less = sym (moved_earlier (length before) i less)

      as_a : j ≡ length before → a ≡ e
      as_a same = at_same listed j a e (ap (slice_get listed) same ∙ at_first before (b ∷ rest) a) at

      as_b : j ≡ length before + 1 → b ≡ e
      as_b same = at_same listed j b e (ap (slice_get listed) (let m : j ≡ suc (length before) = omega arith in m) ∙ at_second before rest a b) at

      a_source : a ≡ e → StandsAsSource caps (take j listed) i s a.op
      a_source same = subst (λ (e : Event). StandsAsSource caps (take j listed) i s e.op) (sym same) is

      b_source : b ≡ e → StandsAsSource caps (take j listed) i s b.op
      b_source same = subst (λ (e : Event). StandsAsSource caps (take j listed) i s e.op) (sym same) is

      go : (m : ℕ) → IsMoved (length before) j m → StandsAsSource caps (take m turned) (moved (length before) i) s e.op
      go m (inl (less, same)) =
          stands_as caps (take j listed) (take m turned) i (moved (length before) i) s e.op
          (front_earlier a b j less ∙ (ap (λ m. take m before) (sym same) ∙ sym (front_earlier b a m (omega (arith, same, less)))))
          (stays (omega (arith, less, under))) is
      go m (inr (inl (here, same))) =
          stands_as caps (before ++ b ∷ []) (take m turned) i (moved (length before) i) s e.op (sym (front_second b a m same)) (stays (omega (arith, here, under)))
          (subst (λ (e : Event). StandsAsSource caps (before ++ b ∷ []) i s e.op) (as_a here)
          (with_more i s (stands_as caps (take j listed) before i i s a.op (front_first a b j here) refl (a_source (as_a here)))))
      go m (inr (inr (inl (here, same)))) =
          first (with_less i s (stands_as caps (take j listed) (before ++ a ∷ []) i i s b.op (front_second a b j here) refl (b_source (as_b here))))
        where
          first : StandsAsSource caps before i s b.op → StandsAsSource caps (take m turned) (moved (length before) i) s e.op
          first old =
              stands_as caps before (take m turned) i (moved (length before) i) s e.op (sym (front_first b a m same)) (stays (slice_get_within before i s old.0))
              (subst (λ (e : Event). StandsAsSource caps before i s e.op) (as_b here) old)
      go m (inr (inr (inr (more, same)))) =
          stands_as caps (before ++ b ∷ a ∷ take k rest) (take m turned) (moved (length before) i) (moved (length before) i) s e.op
          (sym (front_later b a m k (same ∙ far))) refl
          (with_both (take k rest) i s e.op (stands_as caps (take j listed) (before ++ a ∷ b ∷ take k rest) i i s e.op (front_later a b j k far) refl is))
        where
          k : ℕ
          k = j - (length before + 2)

          far : j ≡ length before + suc (suc (j - (length before + 2)))
          far = omega (arith, more)
