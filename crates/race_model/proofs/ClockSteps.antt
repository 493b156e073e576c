-- The clock of a goroutine, one event on.
use Rattle.std.proofs.Common.{◌≡◌, ◌≢◌, ◌⊎◌, ◌↔◌, ℕ, ◌+◌, ◌<◌, ◌≤◌, max, true, false, List, [], ◌∷◌, ◌++◌, take, length}
use Rattle.std.proofs.Common.{refl, sym, ap, ◌∙◌, subst, inl, inr, arith, IsTrue, eq-eqb, ne_eqb}
use Rattle.std.proofs.lemmas.{Bool.{cases_eq, cases_lt}, Option.slice_get_within}
use Rattle.race_records.specs.declared.event.{Event.Event, Op.Op}
use Rattle.race_model.specs.{Events.{takes_part, TakesPart}, Order.{Begin, SynchronizedInside, IsSource, Reaches}}
use Rattle.race_model.specs.{Order.then_step, Known.{SeenBy, SeenAt}, Clocks.{participations, CountsBegins, SeenFrom}}
use Rattle.race_model.{specs.Clocks.{owning, CountsSeen}, proofs.{Indexes.slice_get-push, Ranks.reaches_up}}
use Rattle.race_model.proofs.{Grow.{takes_part_grow, takes_part_old, reaches_grow, reaches_old}, Reaching.inside_from}
use Rattle.race_model.proofs.{Reaching.{ReachesEarlier, into_begin, out_of_seen, who_takes_part}, SeenSteps.Brings}
use Rattle.race_model.proofs.SeenSteps.{own_seen, new_part, seen_at_from, seen_grow, seen_step, seen_brings}
use Rattle.race_model.proofs.ClockLemmas.{one_if, participations_push, nth_participation, counts_as, counts_like}
use Rattle.race_model.proofs.ClockLemmas.{counts_join, counts_grow, part_push, front_new}

-- what o, coming next, is handed by its sources: all that they had seen by their begins
abbrev pub Handed : (ℕ → ℕ) → List Event → Op → ℕ → ℕ → Type 0
Handed caps past o = SeenFrom caps past (λ k s. IsSource caps past k s o)

-- c counts what g's begin in event k has seen, that begin included
abbrev pub CountsAt : (ℕ → ℕ) → List Event → ℕ → ℕ → (ℕ → ℕ) → Type 0
CountsAt caps events k g c = CountsBegins events c (λ i h. SeenAt caps events i h k g)

-- a goroutine has seen its own begins, and so counts them all
pub own_count : (caps : ℕ → ℕ) (events : List Event) (g : ℕ) (d : ℕ → ℕ)
    → CountsBegins events d (λ i h. SeenBy caps events i h g) → d g ≡ participations g events
own_count caps events g d k = elim (cases_lt (d g) (participations g events)) [
  | inr le ↦ let bound : d g ≤ participations g events = k.bound g in omega (arith, le, bound)
  | inl less ↦ go (nth_participation g (d g) events less)
]
  where
    go : ((i : ℕ) × TakesPart events i g × (participations g (take i events) ≡ d g)) → d g ≡ participations g events
    go (i, part, n) =
        let counted : participations g (take i events) < d g = k.counted i g part (own_seen caps events i g part) in
        absurd (omega (arith, n, counted))

-- so a clock that is right of the others is right
pub counts_seen_from : (caps : ℕ → ℕ) (events : List Event) (g : ℕ) (c d : ℕ → ℕ)
    → CountsBegins events d (λ i h. SeenBy caps events i h g) → ((h : ℕ) → h ≢ g → c h ≡ d h)
    → CountsSeen caps events g c
counts_seen_from caps events g c d k same = counts_like events d (owning g (participations g events) c) (λ i h. SeenBy caps events i h g) equal k
  where
    equal : (h : ℕ) → owning g (participations g events) c h ≡ d h
    equal h = elim (cases_eq h g) [
      | inl is ↦ rw (eq-eqb h g is) (sym (own_count caps events g d k) ∙ ap d (sym is))
      | inr differ ↦ rw (ne_eqb h g differ) (same h differ)
    ]

-- the list with e behind it
module _ (caps : ℕ → ℕ) (past : List Event) (e : Event) where
  -- what reaches g's begin in e was seen by g
  pub reaches_new : (i h g : ℕ) → Reaches caps (past ++ e ∷ []) (Begin i h) (Begin (length past) g) → SeenBy caps past i h g
  reaches_new i h g w = go (into_begin i h (length past) g w)
    where
      go : ReachesEarlier caps (past ++ e ∷ []) i h (length past) g → SeenBy caps past i h g
      go (m, less, from, to, v) = (m, takes_part_old caps past (e ∷ []) m g less from, reaches_old caps past (e ∷ []) less v)

  -- and the other way
  pub reaches_from : (i h g : ℕ) → IsTrue (takes_part g e) → SeenBy caps past i h g → Reaches caps (past ++ e ∷ []) (Begin i h) (Begin (length past) g)
  reaches_from i h g is (m, (s, at, part), w) =
      then_step (reaches_grow caps past (e ∷ []) w)
      (inl (slice_get_within past m s at, refl, takes_part_grow caps past (e ∷ []) m g (s, at, part), new_part caps past e g is))

  -- no begin in e reaches one
  new_reaches_none : (h g : ℕ) → Reaches caps (past ++ e ∷ []) (Begin (length past) h) (Begin (length past) g) → ⊥
  new_reaches_none h g w = let up : length past + length past < length past + length past = reaches_up w in omega (arith, up)

  -- what g has seen so far is what reaches its begin in e
  pub counts_before : (g : ℕ) (d : ℕ → ℕ) → IsTrue (takes_part g e) → CountsBegins past d (λ i h. SeenBy caps past i h g)
      → CountsBegins (past ++ e ∷ []) d (λ i h. Reaches caps (past ++ e ∷ []) (Begin i h) (Begin (length past) g))
  counts_before g d is k =
      counts_grow past e d (λ i h. SeenBy caps past i h g) (λ i h. Reaches caps (past ++ e ∷ []) (Begin i h) (Begin (length past) g))
      (λ i h part. (reaches_from i h g is, reaches_new i h g)) (λ h. new_reaches_none h g) k

  -- with that begin there is one own more
  pub counts_at_begin : (g : ℕ) (c : ℕ → ℕ) → IsTrue (takes_part g e) → CountsSeen caps past g c
      → CountsAt caps (past ++ e ∷ []) (length past) g (owning g (participations g past + 1) c)
  counts_at_begin g c is k = record {
    bound = λ h. elim (cases_eq h g) [
      | inl same ↦ rw (eq-eqb h g same)
          (
          let all : participations h (past ++ e ∷ []) ≡ participations h past + 1 =
          participations_push h past e ∙ ap (λ b. participations h past + one_if b) (ap (λ h. takes_part h e) same ∙ is) in
          omega (arith, all, ap (λ h. participations h past) same)
          )
      | inr differ ↦ rw (ne_eqb h g differ)
          (let le : c h ≤ participations h (past ++ e ∷ []) =
          subst (λ n. n ≤ participations h (past ++ e ∷ [])) (other h differ (participations g past)) (before.bound h) in le)
    ];
    counted = λ i h part seen. elim seen [
      | inl own ↦ subst (λ es. participations h es < owning g (participations g past + 1) c h) (sym (front_new past e i own.0))
          (rw (eq-eqb h g own.1) (let same : participations h past ≡ participations g past = ap (λ h. participations h past) own.1 in omega (arith, same)))
      | inr w ↦ let less : participations h (take i (past ++ e ∷ [])) < owning g (participations g past) c h = before.counted i h part w in let le : owning g
          (participations g past) c h ≤ owning g (participations g past + 1) c h = up h in omega (arith, less, le)
    ];
    only = λ i h part less. elim (part_push past e i h part) [
      | inl old ↦ inr (elim (cases_eq h g) [
        | inl same ↦ reaches_from i h g is (subst (λ h. SeenBy caps past i h g) (sym same) (own_seen caps past i g (subst (TakesPart past i) same old)))
        | inr differ ↦ before.only i h part
            (subst (λ n. participations h (take i (past ++ e ∷ [])) < n)
            (other h differ (participations g past + 1) ∙ sym (other h differ (participations g past))) less)
      ])
      | inr new ↦ elim (cases_eq h g) [
        | inl same ↦ inl (new.0, same)
        | inr differ ↦
            inr (before.only i h part
            (subst (λ n. participations h (take i (past ++ e ∷ [])) < n)
            (other h differ (participations g past + 1) ∙ sym (other h differ (participations g past))) less))
      ]
    ];
  }
    where
      before : CountsBegins (past ++ e ∷ []) (owning g (participations g past) c) (λ i h. Reaches caps (past ++ e ∷ []) (Begin i h) (Begin (length past) g))
      before = counts_before g (owning g (participations g past) c) is k

      other : (h : ℕ) → h ≢ g → (n : ℕ) → owning g n c h ≡ c h
      other h differ n = rw (ne_eqb h g differ) refl

      up : (h : ℕ) → owning g (participations g past) c h ≤ owning g (participations g past + 1) c h
      up h = elim (cases_eq h g) [
        | inl same ↦ rw (eq-eqb h g same) (omega arith)
        | inr differ ↦ rw (ne_eqb h g differ) (omega arith)
      ]

  -- what was handed to e stays counted
  pub handed_stays : (d : ℕ → ℕ) → CountsBegins past d (Handed caps past e.op) → CountsBegins (past ++ e ∷ []) d (Handed caps past e.op)
  handed_stays d k = counts_grow past e d (Handed caps past e.op) (Handed caps past e.op) (λ i h part. (λ x. x, λ x. x)) none k
    where
      none : (h : ℕ) → Handed caps past e.op (length past) h → ⊥
      none h (k, s, at, source, inl own) = let less : k < length past = slice_get_within past k s at in omega (arith, less, own.0)
      none h (k, s, at, source, inr w) =
          let less : k < length past = slice_get_within past k s at in let up : length past + length past < k + k = reaches_up w in omega (arith, less, up)

  -- what a participant g of e has gathered by its end: what its own begin has seen, and those of its partners inside e,
  -- and what e's goroutine is handed
  abbrev pub Gathered : ℕ → ℕ → ℕ → Type 0
  Gathered g i h =
      SeenAt caps (past ++ e ∷ []) i h (length past) g
      ⊎ (((f : ℕ) × SynchronizedInside e.who e.op f g × SeenAt caps (past ++ e ∷ []) i h (length past) f)
      ⊎ ((e.who ≡ g) × Handed caps past e.op i h))

  pub seen_gathered : (g : ℕ) → IsTrue (takes_part g e) → (i h : ℕ) → SeenBy caps (past ++ e ∷ []) i h g ↔ Gathered g i h
  seen_gathered g is i h = (there, back)
    where
      brought : Brings caps past e i h g → Gathered g i h
      brought (inl own) = inl (inl own)
      brought (inr (inl (f, inside, seen))) = inr (inl (f, inside, seen_at_from caps past e i h f (inside_from e f g inside) seen))
      brought (inr (inr (k, s, at, source, to, seen))) = inr (inr (to, (k, s, at, source, seen)))

      there : SeenBy caps (past ++ e ∷ []) i h g → Gathered g i h
      there seen = elim (seen_step caps past e i h g seen) [
        | inl before ↦ inl (seen_at_from caps past e i h g is (inr before))
        | inr by ↦ brought by.1
      ]

      back : Gathered g i h → SeenBy caps (past ++ e ∷ []) i h g
      back (inl seen) = (
        length past,
        new_part caps past e g is,
        out_of_seen i h (length past) g (length past) g seen (inl (refl, refl, new_part caps past e g is)),
      )
      back (inr (inl (f, inside, seen))) =
          (length past, new_part caps past e g is, out_of_seen i h (length past) f (length past) g seen (inr (e, slice_get-push past e, inl (refl, inside))))
      back (inr (inr (to, (k, s, at, source, seen)))) = seen_brings caps past e i h g is (inr (inr (k, s, at, source, to, seen)))

  -- e's goroutine where it has no partner: its begin's clock, joined with the clock that e is handed
  pub counts_alone : (b d : ℕ → ℕ) → ((f : ℕ) → SynchronizedInside e.who e.op f e.who → ⊥)
      → CountsAt caps (past ++ e ∷ []) (length past) e.who b → CountsBegins past d (Handed caps past e.op)
      → CountsBegins (past ++ e ∷ []) (λ h. max (b h) (d h)) (λ i h. SeenBy caps (past ++ e ∷ []) i h e.who)
  counts_alone b d no_partner own handed =
      counts_as (past ++ e ∷ []) (λ h. max (b h) (d h)) Both (λ i h. SeenBy caps (past ++ e ∷ []) i h e.who) same
      (counts_join (past ++ e ∷ []) b d (λ i h. SeenAt caps (past ++ e ∷ []) i h (length past) e.who) (Handed caps past e.op) own (handed_stays d handed))
    where
      Both : ℕ → ℕ → Type 0
      Both i h = SeenAt caps (past ++ e ∷ []) i h (length past) e.who ⊎ Handed caps past e.op i h

      there : (i h : ℕ) → Both i h → Gathered e.who i h
      there i h (inl seen) = inl seen
      there i h (inr by) = inr (inr (refl, by))

      back : (i h : ℕ) → Gathered e.who i h → Both i h
      back i h (inl seen) = inl seen
      back i h (inr (inl (f, inside, seen))) = absurd (no_partner f inside)
      back i h (inr (inr (to, by))) = inr by

      same : (i h : ℕ) → TakesPart (past ++ e ∷ []) i h → Both i h ↔ SeenBy caps (past ++ e ∷ []) i h e.who
      same i h part = (
        λ both. (seen_gathered e.who (who_takes_part e) i h).1 (there i h both),
        λ seen. back i h ((seen_gathered e.who (who_takes_part e) i h).0 seen),
      )

  -- a participant with one partner inside e, where e is handed nothing: the clocks of the two begins
  pub counts_pair : (f g : ℕ) (a b : ℕ → ℕ) → IsTrue (takes_part g e)
      → SynchronizedInside e.who e.op f g → ((x : ℕ) → SynchronizedInside e.who e.op x g → x ≡ f)
      → ((i h : ℕ) → Handed caps past e.op i h → ⊥)
      → CountsAt caps (past ++ e ∷ []) (length past) g a → CountsAt caps (past ++ e ∷ []) (length past) f b
      → CountsBegins (past ++ e ∷ []) (λ h. max (a h) (b h)) (λ i h. SeenBy caps (past ++ e ∷ []) i h g)
  counts_pair f g a b is inside sole unhanded own other =
      counts_as (past ++ e ∷ []) (λ h. max (a h) (b h)) Both (λ i h. SeenBy caps (past ++ e ∷ []) i h g) same
      (counts_join (past ++ e ∷ []) a b (λ i h. SeenAt caps (past ++ e ∷ []) i h (length past) g)
      (λ i h. SeenAt caps (past ++ e ∷ []) i h (length past) f) own other)
    where
      Both : ℕ → ℕ → Type 0
      Both i h = SeenAt caps (past ++ e ∷ []) i h (length past) g ⊎ SeenAt caps (past ++ e ∷ []) i h (length past) f

      there : (i h : ℕ) → Both i h → Gathered g i h
      there i h (inl seen) = inl seen
      there i h (inr seen) = inr (inl (f, inside, seen))

      back : (i h : ℕ) → Gathered g i h → Both i h
      back i h (inl seen) = inl seen
      back i h (inr (inl (x, to, seen))) = inr (subst (λ f. SeenAt caps (past ++ e ∷ []) i h (length past) f) (sole x to) seen)
      back i h (inr (inr (to, by))) = absurd (unhanded i h by)

      same : (i h : ℕ) → TakesPart (past ++ e ∷ []) i h → Both i h ↔ SeenBy caps (past ++ e ∷ []) i h g
      same i h part = (λ both. (seen_gathered g is i h).1 (there i h both), λ seen. back i h ((seen_gathered g is i h).0 seen))

  -- who takes no part in e keeps its clock
  pub counts_other : (g : ℕ) (c : ℕ → ℕ) → takes_part g e ≡ false → CountsSeen caps past g c → CountsSeen caps (past ++ e ∷ []) g c
  counts_other g c none k = subst (λ n. CountsBegins (past ++ e ∷ []) (owning g n c) (λ i h. SeenBy caps (past ++ e ∷ []) i h g)) (sym as_many)
      (counts_grow past e (owning g (participations g past) c) (λ i h. SeenBy caps past i h g) (λ i h. SeenBy caps (past ++ e ∷ []) i h g)
      (λ i h part. (seen_grow caps past e i h g, λ seen. old i h seen)) unseen k)
    where
      as_many : participations g (past ++ e ∷ []) ≡ participations g past
      as_many =
          let all : participations g (past ++ e ∷ []) ≡ participations g past + one_if (takes_part g e) = participations_push g past e in
          let zero : one_if (takes_part g e) ≡ 0 = ap one_if none in omega (arith, all, zero)

      old : (i h : ℕ) → SeenBy caps (past ++ e ∷ []) i h g → SeenBy caps past i h g
      old i h seen = elim (seen_step caps past e i h g seen) [ inl before ↦ before | inr by ↦ let is : takes_part g e ≡ true = by.0 in cc ]

      unseen : (h : ℕ) → SeenBy caps (past ++ e ∷ []) (length past) h g → ⊥
      unseen h seen = go (old (length past) h seen)
        where
          go : SeenBy caps past (length past) h g → ⊥
          go (j, (s, at, part), w) =
              let less : j < length past = slice_get_within past j s at in
              let up : length past + length past < j + j + 1 = reaches_up w in omega (arith, less, up)
