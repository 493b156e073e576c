-- What a goroutine has seen, as a test that computes: on a list that is written out, refl answers.
use Rattle.std.proofs.Common.{◌≡◌, ◌⊎◌, ℕ, zero, suc, ◌<◌, ◌≤◌, ◌==◌, ◌||◌, ◌&&◌, Bool, false, List, [], ◌∷◌, ◌++◌}
use Rattle.std.proofs.Common.{Option, Some, None, take, length, slice_get, refl, sym, ◌∙◌, subst, inl, inr, arith}
use Rattle.std.proofs.{Common.take-take, lemmas.Bool.Decides.{Decides-eqb, Decides-and, Decides-or, Decides-like}}
use Rattle.std.proofs.lemmas.{Bool.Decides.Decides-below_or, Option.slice_get_within, List.{take_all, length-take-le}}
use Rattle.std.specs.Bool.{Decides}
use Rattle.race_records.specs.declared.event.{Event.Event, Op.{Op, TheVariants.{Go, Meet}}}
use Rattle.race_model.specs.{Events.{At, takes_part}, Order.{SynchronizedInside, IsSource, then_step}}
use Rattle.race_model.{specs.{Synchronized.is_source, Known.{SeenBy, SeenAt}}, proofs.SynchronizedTests.source_is}
use Rattle.race_model.proofs.{SeenSteps.{Brings, seen_none, seen_one_on}, Indexes.{at_same, at_below, take_within}}
use Rattle.race_model.proofs.Indexes.{take_at_old, take_suc, slice_get-take}
use Rattle.race_model.proofs.Reaching.{ReachesEarlier, into_begin, who_takes_part}
use Rattle.race_model.proofs.BeforeSeen.{front_reaches, front_grow}

-- some f passes whose begin is synchronized before g's end, in one event
abbrev pub brought_inside : (ℕ → Bool) → ℕ → Op → ℕ → Bool
brought_inside passes who (Go k) g = (k == g) && passes who
brought_inside passes who (Meet r c v) g = ((r == g) && passes who) || ((who == g) && passes r)
brought_inside passes who _ g = false

Decides-inside : (passes : ℕ → Bool) (P : ℕ → Type 0) → ((f : ℕ) → Decides (passes f) (P f)) → (who : ℕ) (o : Op) (g : ℕ)
    → Decides (brought_inside passes who o g) ((f : ℕ) × SynchronizedInside who o f g × P f)
Decides-inside passes P each who (Go k) g =
    Decides-like _ (λ p. (who, (refl, p.0), p.1)) (λ q. (q.1.1, subst P (sym q.1.0) q.2)) (Decides-and _ _ (Decides-eqb k g) (each who))
Decides-inside passes P each who (Meet r c v) g =
    Decides-like _ to from (Decides-or _ _ (Decides-and _ _ (Decides-eqb r g) (each who)) (Decides-and _ _ (Decides-eqb who g) (each r)))
  where
    to : ((r ≡ g) × P who) ⊎ ((who ≡ g) × P r) → (f : ℕ) × SynchronizedInside who (Meet r c v) f g × P f
    to (inl p) = (who, inl (refl, p.0), p.1)
    to (inr p) = (r, inr (refl, p.0), p.1)

    from : ((f : ℕ) × SynchronizedInside who (Meet r c v) f g × P f) → ((r ≡ g) × P who) ⊎ ((who ≡ g) × P r)
    from (f, inl s, p) = inl (s.1, subst P (sym s.0) p)
    from (f, inr s, p) = inr (s.1, subst P (sym s.0) p)
Decides-inside passes P each who _ g = ((λ is. cc), (λ q. absurd q.1))

-- h's begin in event i is f's begin in event k
abbrev is_begin : ℕ → ℕ → ℕ → ℕ → Bool
is_begin i h k f = (i == k) && (h == f)

-- event k of the list, whose goroutine passes with k, is a source of e
abbrev source_passes : (ℕ → ℕ) → List Event → Event → (ℕ → ℕ → Bool) → ℕ → Bool
source_passes caps past e passes k = elim (slice_get past k) [ Some s ↦ is_source caps past k s.op e.op && passes k s.who | None ↦ false ]

-- some event below n does
abbrev some_source : (ℕ → ℕ) → List Event → Event → (ℕ → ℕ → Bool) → ℕ → Bool
some_source caps past e passes zero = false
some_source caps past e passes (suc n) = source_passes caps past e passes n || some_source caps past e passes n

-- e brings h's begin in event i to g, where had k f says that f had seen it by the events before k
abbrev brings : (ℕ → ℕ) → List Event → Event → ℕ → ℕ → ℕ → (ℕ → ℕ → Bool) → Bool
brings caps past e i h g had =
    is_begin i h (length past) g
    || (brought_inside (λ f. is_begin i h (length past) f || had (length past) f) e.who e.op g
    || ((e.who == g) && some_source caps past e (λ k f. is_begin i h k f || had k f) (length past)))

-- had n g, or the event that comes next brings it
abbrev seen_after : (ℕ → ℕ) → List Event → Option Event → ℕ → ℕ → ℕ → ℕ → (ℕ → ℕ → Bool) → Bool
seen_after caps past None i h n g had = false
seen_after caps past (Some e) i h n g had = had n g || (takes_part g e && brings caps past e i h g had)

-- by the n first events g has seen h's begin in event i; fuel is n at least
abbrev pub has_seen : (ℕ → ℕ) → List Event → ℕ → ℕ → ℕ → ℕ → ℕ → Bool
has_seen caps events i h zero n g = false
has_seen caps events i h (suc fuel) zero g = false
has_seen caps events i h (suc fuel) (suc n) g = seen_after caps (take n events) (slice_get events n) i h n g (has_seen caps events i h fuel)

-- what was seen by a begin, by what was seen before its event
seen_at_front : (caps : ℕ → ℕ) (past : List Event) (i h k : ℕ) (s : Event) → At past k s
    → (((i ≡ k) × (h ≡ s.who)) ⊎ SeenBy caps (take k past) i h s.who → SeenAt caps past i h k s.who)
    × (SeenAt caps past i h k s.who → ((i ≡ k) × (h ≡ s.who)) ⊎ SeenBy caps (take k past) i h s.who)
seen_at_front caps past i h k s at = (to, from)
  where
    within : k < length past
    within = slice_get_within past k s at

    to : ((i ≡ k) × (h ≡ s.who)) ⊎ SeenBy caps (take k past) i h s.who → SeenAt caps past i h k s.who
    to (inl own) = inl own
    to (inr (m, (e, ate, part), w)) =
        inr (then_step (front_grow caps past k w) (inl (take_within k past m e ate, refl, (e, take_at_old k past m e ate, part), (s, at, who_takes_part s))))

    from : SeenAt caps past i h k s.who → ((i ≡ k) × (h ≡ s.who)) ⊎ SeenBy caps (take k past) i h s.who
    from (inl own) = inl own
    from (inr w) = inr (go (into_begin i h k s.who w))
      where
        go : ReachesEarlier caps past i h k s.who → SeenBy caps (take k past) i h s.who
        go (m, less, (e, ate, part), here, v) = (m, (e, slice_get-take k past m less ∙ ate, part), front_reaches caps past k (omega (arith, within)) less v)

module _ (caps : ℕ → ℕ) (past : List Event) (e : Event) (i h g : ℕ) (had : ℕ → ℕ → Bool)
    (had_is : (k f : ℕ) → k ≤ length past → Decides (had k f) (SeenBy caps (take k past) i h f)) where
  abbrev BySource : ℕ → Type 0
  BySource k = (s : Event) × At past k s × IsSource caps past k s.op e.op × SeenAt caps past i h k s.who

  source_is_passes : (k : ℕ) → Decides (source_passes caps past e (λ k f. is_begin i h k f || had k f) k) (BySource k)
  source_is_passes k = go (slice_get past k) refl
    where
      go : (o : Option Event) → slice_get past k ≡ o
          → Decides (elim o [ Some s ↦ is_source caps past k s.op e.op && (is_begin i h k s.who || had k s.who) | None ↦ false ]) (BySource k)
      go None none = ((λ is. cc), (λ by. let at : slice_get past k ≡ Some by.0 = by.1 in cc))
      go (Some s) at = Decides-like _ (λ p. (s, at, p.0, (seen_at_front caps past i h k s at).0 p.1)) from
          (Decides-and _ _ (source_is caps past k s.op e.op) (Decides-or _ _ (Decides-and _ _ (Decides-eqb i k) (Decides-eqb h s.who)) (had_is k s.who within)))
        where
          within : k ≤ length past
          within = let below : k < length past = slice_get_within past k s at in omega arith

          from : BySource k → IsSource caps past k s.op e.op × (((i ≡ k) × (h ≡ s.who)) ⊎ SeenBy caps (take k past) i h s.who)
          from (t, att, source, seen) =
              let same : t ≡ s = at_same past k t s att at in (
                subst (λ (t : Event). IsSource caps past k t.op e.op) same source,
                (seen_at_front caps past i h k s at).1 (subst (λ (t : Event). SeenAt caps past i h k t.who) same seen),
              )

  Decides-brings : Decides (brings caps past e i h g had) (Brings caps past e i h g)
  Decides-brings =
      Decides-or _ _ own
      (Decides-or _ _ (Decides-inside _ _ (λ f. Decides-or _ _ (Decides-and _ _ (Decides-eqb i _) (Decides-eqb h f)) (had_all f)) e.who e.op g)
      by_source)
    where
      own : Decides (is_begin i h (length past) g) ((i ≡ length past) × (h ≡ g))
      own = Decides-and _ _ (Decides-eqb i _) (Decides-eqb h g)

      had_all : (f : ℕ) → Decides (had (length past) f) (SeenBy caps past i h f)
      had_all f = subst (λ es. Decides (had (length past) f) (SeenBy caps es i h f))
          (take_all (length past) past (omega arith)) (had_is (length past) f (omega arith))

      by_source : Decides ((e.who == g) && some_source caps past e (λ k f. is_begin i h k f || had k f) (length past))
          ((k : ℕ) × (s : Event) × At past k s × IsSource caps past k s.op e.op × (e.who ≡ g) × SeenAt caps past i h k s.who)
      by_source = Decides-like _
          (λ p. (p.1.0, p.1.2.0, p.1.2.1, p.1.2.2, p.0, p.1.2.3))
          (λ q. (q.4, (q.0, slice_get_within past q.0 q.1 q.2, (q.1, q.2, q.3, q.5))))
          (Decides-and _ _ (Decides-eqb e.who g)
          (Decides-below_or _ BySource (some_source caps past e (λ k f. is_begin i h k f || had k f)) source_is_passes refl (λ n. refl) (length past)))

-- one event on
Decides-after : (caps : ℕ → ℕ) (events : List Event) (i h n g : ℕ) (had : ℕ → ℕ → Bool) → n < length events
    → ((k f : ℕ) → k ≤ n → Decides (had k f) (SeenBy caps (take k events) i h f))
    → Decides (seen_after caps (take n events) (slice_get events n) i h n g had) (SeenBy caps (take (suc n) events) i h g)
Decides-after caps events i h n g had within had_is = go (at_below events n within)
  where
    past : List Event
    past = take n events

    long : length past ≡ n
    long = length-take-le n events (omega arith)

    had_front : (k f : ℕ) → k ≤ length past → Decides (had k f) (SeenBy caps (take k past) i h f)
    had_front k f low = subst (λ es. Decides (had k f) (SeenBy caps es i h f))
        (sym (take-take k n events (omega (arith, long)))) (had_is k f (omega (arith, long)))

    go : (e : Event) × (slice_get events n ≡ Some e) → Decides (seen_after caps past (slice_get events n) i h n g had) (SeenBy caps (take (suc n) events) i h g)
    go (e, at) =
        subst (λ o. Decides (seen_after caps past o i h n g had) (SeenBy caps (take (suc n) events) i h g)) (sym at)
        (subst (λ es. Decides (seen_after caps past (Some e) i h n g had) (SeenBy caps es i h g)) (sym (take_suc n events e at)) here)
      where
        here : Decides (seen_after caps past (Some e) i h n g had) (SeenBy caps (past ++ e ∷ []) i h g)
        here =
            let step = seen_one_on caps past e i h g in
            Decides-like _ step.1 step.0 (Decides-or _ _ (had_is n g (omega arith))
            (Decides-and _ _ ((λ is. is), (λ is. is)) (Decides-brings caps past e i h g had had_front)))

-- the test passes exactly where it was seen
pub Decides-seen : (caps : ℕ → ℕ) (events : List Event) (i h fuel n g : ℕ) → n ≤ fuel → n ≤ length events
    → Decides (has_seen caps events i h fuel n g) (SeenBy caps (take n events) i h g)
Decides-seen caps events i h zero n g le within = (
  (λ is. cc),
  (λ seen. absurd (let none : n ≡ 0 = omega arith in seen_none caps i h g (subst (λ n. SeenBy caps (take n events) i h g) none seen))),
)
Decides-seen caps events i h (suc fuel) zero g le within = ((λ is. cc), (λ seen. absurd (seen_none caps i h g seen)))
Decides-seen caps events i h (suc fuel) (suc n) g le within =
    Decides-after caps events i h n g (has_seen caps events i h fuel) within (λ k f low. Decides-seen caps events i h fuel k f (omega arith) (omega arith))
