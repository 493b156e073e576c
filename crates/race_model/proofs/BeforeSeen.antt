-- An access happens before a later event exactly where the later one's goroutine has seen it before.
use Rattle.std.proofs.Common.{◌≡◌, ◌⊎◌, ℕ, ◌<◌, ◌≤◌, List, take, drop, length, slice_get, refl, sym, ap, ◌∙◌, subst}
use Rattle.std.proofs.{Common.{inl, inr, arith, IsTrue, take-append-drop}, lemmas.Option.slice_get_within}
use Rattle.std.proofs.lemmas.List.{length-take-le}
use Rattle.race_records.specs.declared.event.{Event.Event, Op.{Op, TheVariants.{Go, Meet, Read, Write, Send, Recv}}}
use Rattle.race_records.specs.declared.event.Op.TheVariants.{RecvClosed, Lock, RLock, TryLock, TryRLock, OnceDone}
use Rattle.race_model.specs.{Events.{At, accesses, is_access}, Order.{Point, Begin, End, SynchronizedInside, IsSource}}
use Rattle.race_model.specs.Order.{SynchronizedBefore, Step, Reaches, one_step, then_step, HappensBefore}
use Rattle.race_model.{specs.{Race.{Conflict, IsRace}, Known.SeenBy}, proofs.Indexes.{at_same, slice_get-take}}
use Rattle.race_model.proofs.{Indexes.{take_within, take_at_old}, Ranks.{index_of, happens_before_up}}
use Rattle.race_model.proofs.{Grow.{reaches_grow, reaches_old}, Reaching.{reaches_on, who_takes_part, ReachesEarlier}}
use Rattle.race_model.proofs.{Reaching.into_begin, ReorderLemmas.is_access_from}

-- an access has no edge inside its event
pub access_alone : (who : ℕ) (o : Op) (g h : ℕ) → IsTrue (is_access o) → SynchronizedInside who o g h → ⊥
access_alone who (Go k) g h is s = cc
access_alone who (Meet r c v) g h is s = cc
access_alone who _ g h is s = s

-- and is no source
pub access_no_source : (caps : ℕ → ℕ) (past : List Event) (i : ℕ) (s o : Op) → IsTrue (is_access s) → IsSource caps past i s o → ⊥
access_no_source caps past i (Read x w) (Send c v) is u = (let no = u.1.0 in cc)
access_no_source caps past i (Read x w) (Recv c v) is u = (let no = u.0 in cc)
access_no_source caps past i (Read x w) (RecvClosed c) is u = cc
access_no_source caps past i (Read x w) (Lock l) is (inl u) = cc
access_no_source caps past i (Read x w) (Lock l) is (inr u) = (let no = u.0 in cc)
access_no_source caps past i (Read x w) (RLock l) is u = (let no = u.1.0 in cc)
access_no_source caps past i (Read x w) (TryLock l) is (inl u) = cc
access_no_source caps past i (Read x w) (TryLock l) is (inr u) = (let no = u.0 in cc)
access_no_source caps past i (Read x w) (TryRLock l) is u = (let no = u.1.0 in cc)
access_no_source caps past i (Read x w) (OnceDone o) is u = cc
access_no_source caps past i (Read x w) _ is u = u
access_no_source caps past i (Write x w) (Send c v) is u = (let no = u.1.0 in cc)
access_no_source caps past i (Write x w) (Recv c v) is u = (let no = u.0 in cc)
access_no_source caps past i (Write x w) (RecvClosed c) is u = cc
access_no_source caps past i (Write x w) (Lock l) is (inl u) = cc
access_no_source caps past i (Write x w) (Lock l) is (inr u) = (let no = u.0 in cc)
access_no_source caps past i (Write x w) (RLock l) is u = (let no = u.1.0 in cc)
access_no_source caps past i (Write x w) (TryLock l) is (inl u) = cc
access_no_source caps past i (Write x w) (TryLock l) is (inr u) = (let no = u.0 in cc)
access_no_source caps past i (Write x w) (TryRLock l) is u = (let no = u.1.0 in cc)
access_no_source caps past i (Write x w) (OnceDone o) is u = cc
access_no_source caps past i (Write x w) _ is u = u
access_no_source caps past i _ o is u = cc

module _ (caps : ℕ → ℕ) (events : List Event) where
  -- no edge leaves an access
  pub access_no_edge : (i : ℕ) (a : Event) → At events i a → IsTrue (is_access a.op) → (g k h : ℕ) → SynchronizedBefore caps events (Begin i g) (End k h) → ⊥
  access_no_edge i a at is g k h (x, atx, inl (here, inside)) =
      let same : a ≡ x = at_same events i a x at (ap (slice_get events) here ∙ atx) in
      access_alone x.who x.op g h (subst (λ (x : Event). IsTrue (is_access x.op)) same is) inside
  access_no_edge i a at is g k h (x, atx, inr (s, ats, source, from, to)) =
      let same : a ≡ s = at_same events i a s at (take_at_old k events i s ats) in
      access_no_source caps (take k events) i s.op x.op (subst (λ (s : Event). IsTrue (is_access s.op)) same is) source

  -- what leaves an access leaves it by its end
  pub leaves_by_end : (i g : ℕ) → ((k h : ℕ) → SynchronizedBefore caps events (Begin i g) (End k h) → ⊥)
      → {q : Point} → Reaches caps events (Begin i g) q → (q ≡ End i g) ⊎ Reaches caps events (End i g) q
  leaves_by_end i g alone (one_step {q} s) = go q s
    where
      go : (q : Point) → Step caps events (Begin i g) q → (q ≡ End i g) ⊎ Reaches caps events (End i g) q
      go (Begin k h) (inl s) = absurd s
      go (Begin k h) (inr s) = absurd s
      go (End k h) (inl (same, who, part)) = inl (ap (λ k. End k h) (sym same) ∙ ap (End i) (sym who))
      go (End k h) (inr edge) = absurd (alone k h edge)
  leaves_by_end i g alone (then_step {q} {r} w s) = go (leaves_by_end i g alone w)
    where
      go : (q ≡ End i g) ⊎ Reaches caps events (End i g) q → (r ≡ End i g) ⊎ Reaches caps events (End i g) r
      go (inl here) = inr (one_step (subst (λ q. Step caps events q r) here s))
      go (inr v) = inr (then_step v s)

  -- the events before event j hold all that reaches a point before it
  pub front_reaches : (j : ℕ) → j ≤ length events → {p q : Point} → index_of q < j → Reaches caps events p q → Reaches caps (take j events) p q
  front_reaches j le {p} {q} less w =
      let long : length (take j events) ≡ j = length-take-le j events le in
      reaches_old caps (take j events) (drop j events) (omega (arith, long)) (subst (λ es. Reaches caps es p q) (sym (take-append-drop j events)) w)

  -- and no more
  pub front_grow : (j : ℕ) {p q : Point} → Reaches caps (take j events) p q → Reaches caps events p q
  front_grow j {p} {q} w = subst (λ es. Reaches caps es p q) (take-append-drop j events) (reaches_grow caps (take j events) (drop j events) w)

  -- what happens before event j is seen by its goroutine among the events before j
  pub seen_from_before : (i j : ℕ) (a b : Event) → At events i a → At events j b → HappensBefore caps events i j → SeenBy caps (take j events) i a.who b.who
  seen_from_before i j a b ata atb (x, y, atx, aty, w) =
      go (into_begin i a.who j b.who (reaches_on (one_step (inl (refl, refl, (a, ata, who_takes_part a)))) from_a))
    where
      from_a : Reaches caps events (End i a.who) (Begin j b.who)
      from_a =
          subst (λ (b : Event). Reaches caps events (End i a.who) (Begin j b.who)) (at_same events j y b aty atb)
          (subst (λ (a : Event). Reaches caps events (End i a.who) (Begin j y.who)) (at_same events i x a atx ata) w)

      go : ReachesEarlier caps events i a.who j b.who → SeenBy caps (take j events) i a.who b.who
      go (m, less, (s, ats, part), to, v) =
          let long : j < length events = slice_get_within events j b atb in
          (m, (s, slice_get-take j events m less ∙ ats, part), front_reaches j (omega arith) less v)

  -- an access that is so seen happens before event j
  pub before_from_seen : (i j : ℕ) (a b : Event) → At events i a → At events j b → IsTrue (is_access a.op) → SeenBy caps (take j events) i a.who b.who
      → HappensBefore caps events i j
  before_from_seen i j a b ata atb is (m, (s, ats, part), w) = go (leaves_by_end i a.who (access_no_edge i a ata is a.who) to_b)
    where
      to_b : Reaches caps events (Begin i a.who) (Begin j b.who)
      to_b = then_step (front_grow j w) (inl (take_within j events m s ats, refl, (s, take_at_old j events m s ats, part), (b, atb, who_takes_part b)))

      go : (Begin j b.who ≡ End i a.who) ⊎ Reaches caps events (End i a.who) (Begin j b.who) → HappensBefore caps events i j
      go (inl same) = cc
      go (inr v) = (a, b, ata, atb, v)

  -- happens before is transitive
  pub happens_before_on : (i j k : ℕ) → HappensBefore caps events i j → HappensBefore caps events j k → HappensBefore caps events i k
  happens_before_on i j k (a, b, ata, atb, v) (x, c, atx, atc, w) =
      (a, c, ata, atc, reaches_on (then_step v (inl (refl, refl, (b, atb, who_takes_part b)))) from_b)
    where
      from_b : Reaches caps events (End j b.who) (Begin k c.who)
      from_b = subst (λ (b : Event). Reaches caps events (End j b.who) (Begin k c.who)) (at_same events j x b atx atb) w

  -- accesses that conflict race where the later one's goroutine hasn't seen the earlier one
  pub race_from_unseen : (x i j : ℕ) (a b : Event) → i < j → At events i a → At events j b → Conflict events x i j
      → (SeenBy caps (take j events) i a.who b.who → ⊥) → IsRace caps events x i j
  race_from_unseen x i j a b up ata atb c unseen = record {
    conflict = c;
    not_before = λ h. unseen (seen_from_before i j a b ata atb h);
    not_after = λ h. let down : j < i = happens_before_up caps events j i h in absurd (omega arith);
  }

  -- and only there
  pub unseen_from_race : (x i j : ℕ) (a b : Event) → At events i a → At events j b → IsRace caps events x i j → SeenBy caps (take j events) i a.who b.who → ⊥
  unseen_from_race x i j a b ata atb race seen = go race.conflict.1
    where
      go : ((e : Event) × At events i e × IsTrue (accesses x e.op)) → ⊥
      go (e, at, is) = race.not_before
          (before_from_seen i j a b ata atb (subst (λ (e : Event). IsTrue (is_access e.op)) (at_same events i e a at ata) (is_access_from x e.op is)) seen)
