-- The clock of a set of sources, one event on.
use Rattle.std.proofs.Common.{◌≡◌, ◌⊎◌, ◌↔◌, ℕ, ◌+◌, ◌<◌, max, List, [], ◌∷◌, ◌++◌, length, sym, subst, inl, inr, arith}
use Rattle.std.proofs.lemmas.Option.{slice_get_within}
use Rattle.race_records.specs.declared.event.{Event.Event, Op.Op}
use Rattle.race_model.{specs.{Events.At, Known.SeenAt, Clocks.{SeenFrom, CountsFrom}}, proofs.ClockSteps.CountsAt}
use Rattle.race_model.proofs.{Indexes.{push_at, append_at_old, slice_get-push}, Ranks.reaches_up}
use Rattle.race_model.proofs.{SeenSteps.{seen_at_grow, seen_at_old}, ClockLemmas.{counts_as, counts_none, counts_join}}
use Rattle.race_model.proofs.ClockLemmas.{counts_grow}

-- no event passes the test
pub from_none : (caps : ℕ → ℕ) (events : List Event) (Q : ℕ → Op → Type 0) (c : ℕ → ℕ)
    → ((k : ℕ) (s : Event) → At events k s → Q k s.op → ⊥) → ((h : ℕ) → c h ≡ 0)
    → CountsFrom caps events Q c
from_none caps events Q c none zero = counts_none events c (SeenFrom caps events Q) zero go
  where
    go : (i h : ℕ) → SeenFrom caps events Q i h → ⊥
    go i h (k, s, at, is, seen) = none k s at is

-- the same events pass two tests
pub from_as : (caps : ℕ → ℕ) (events : List Event) (Q T : ℕ → Op → Type 0) (c : ℕ → ℕ)
    → ((k : ℕ) (s : Event) → At events k s → Q k s.op ↔ T k s.op) → CountsFrom caps events Q c
    → CountsFrom caps events T c
from_as caps events Q T c same k = counts_as events c (SeenFrom caps events Q) (SeenFrom caps events T) (λ i h part. (there i h, back i h)) k
  where
    there : (i h : ℕ) → SeenFrom caps events Q i h → SeenFrom caps events T i h
    there i h (k, s, at, is, seen) = (k, s, at, (same k s at).0 is, seen)

    back : (i h : ℕ) → SeenFrom caps events T i h → SeenFrom caps events Q i h
    back i h (k, s, at, is, seen) = (k, s, at, (same k s at).1 is, seen)

-- the events that pass one test or the other
pub from_either : (caps : ℕ → ℕ) (events : List Event) (Q T : ℕ → Op → Type 0) (a b : ℕ → ℕ) → CountsFrom caps events Q a → CountsFrom caps events T b
    → CountsFrom caps events (λ k s. Q k s ⊎ T k s) (λ h. max (a h) (b h))
from_either caps events Q T a b m n =
    counts_as events (λ h. max (a h) (b h)) (λ i h. SeenFrom caps events Q i h ⊎ SeenFrom caps events T i h) (SeenFrom caps events (λ k s. Q k s ⊎ T k s))
    (λ i h part. (there i h, back i h)) (counts_join events a b (SeenFrom caps events Q) (SeenFrom caps events T) m n)
  where
    there : (i h : ℕ) → SeenFrom caps events Q i h ⊎ SeenFrom caps events T i h → SeenFrom caps events (λ k s. Q k s ⊎ T k s) i h
    there i h (inl (k, s, at, is, seen)) = (k, s, at, inl is, seen)
    there i h (inr (k, s, at, is, seen)) = (k, s, at, inr is, seen)

    back : (i h : ℕ) → SeenFrom caps events (λ k s. Q k s ⊎ T k s) i h → SeenFrom caps events Q i h ⊎ SeenFrom caps events T i h
    back i h (k, s, at, inl is, seen) = inl (k, s, at, is, seen)
    back i h (k, s, at, inr is, seen) = inr (k, s, at, is, seen)

-- the list with e behind it
module _ (caps : ℕ → ℕ) (past : List Event) (e : Event) where
  -- two tests that agree on the events of the list
  abbrev pub Agree : (ℕ → Op → Type 0) → (ℕ → Op → Type 0) → Type 0
  Agree Q T = (k : ℕ) (s : Event) → At past k s → Q k s.op ↔ T k s.op

  -- what the longer list's begins have seen: those of the list, and e's
  from_old : (Q T : ℕ → Op → Type 0) → Agree Q T → (i h : ℕ) → SeenFrom caps past Q i h → SeenFrom caps (past ++ e ∷ []) T i h
  from_old Q T agree i h (k, s, at, is, seen) = (k, s, append_at_old past (e ∷ []) k s at, (agree k s at).0 is, seen_at_grow caps past e i h k s.who seen)

  from_new : (T : ℕ → Op → Type 0) → T (length past) e.op → (i h : ℕ)
      → SeenAt caps (past ++ e ∷ []) i h (length past) e.who → SeenFrom caps (past ++ e ∷ []) T i h
  from_new T is i h seen = (length past, e, slice_get-push past e, is, seen)

  from_push : (Q T : ℕ → Op → Type 0) → Agree Q T → (i h : ℕ) → SeenFrom caps (past ++ e ∷ []) T i h
      → SeenFrom caps past Q i h ⊎ (T (length past) e.op × SeenAt caps (past ++ e ∷ []) i h (length past) e.who)
  from_push Q T agree i h (k, s, at, is, seen) = elim (push_at past e k s at) [
    | inl old ↦ inl (k, s, old, (agree k s old).1 is, seen_at_old caps past e i h k s.who (slice_get_within past k s old) seen)
    | inr new ↦ inr (
      subst (λ (s : Event). T (length past) s.op) (sym new.1) (subst (λ k. T k s.op) new.0 is),
      subst (λ (s : Event). SeenAt caps (past ++ e ∷ []) i h (length past) s.who)
          (sym new.1) (subst (λ k. SeenAt caps (past ++ e ∷ []) i h k s.who) new.0 seen),
    )
  ]

  -- begins of the list have seen none of e
  from_within : (Q : ℕ → Op → Type 0) (h : ℕ) → SeenFrom caps past Q (length past) h → ⊥
  from_within Q h (k, s, at, is, inl own) = let less : k < length past = slice_get_within past k s at in omega (arith, less, own.0)
  from_within Q h (k, s, at, is, inr w) =
      let less : k < length past = slice_get_within past k s at in let up : length past + length past < k + k = reaches_up w in omega (arith, less, up)

  -- e doesn't pass: the clock stays
  pub from_same : (Q T : ℕ → Op → Type 0) (c : ℕ → ℕ) → Agree Q T → (T (length past) e.op → ⊥) → CountsFrom caps past Q c → CountsFrom caps (past ++ e ∷ []) T c
  from_same Q T c agree none k =
      counts_grow past e c (SeenFrom caps past Q) (SeenFrom caps (past ++ e ∷ []) T) (λ i h part. (from_old Q T agree i h, λ seen. old i h seen))
      (λ h seen. from_within Q h (old (length past) h seen)) k
    where
      old : (i h : ℕ) → SeenFrom caps (past ++ e ∷ []) T i h → SeenFrom caps past Q i h
      old i h seen = elim (from_push Q T agree i h seen) [ inl before ↦ before | inr new ↦ absurd (none new.0) ]

  -- e passes too: join with the clock of its begin
  pub from_more : (Q T : ℕ → Op → Type 0) (c b : ℕ → ℕ) → Agree Q T → T (length past) e.op
      → CountsFrom caps past Q c → CountsAt caps (past ++ e ∷ []) (length past) e.who b
      → CountsFrom caps (past ++ e ∷ []) T (λ h. max (c h) (b h))
  from_more Q T c b agree is k own =
      counts_as (past ++ e ∷ []) (λ h. max (c h) (b h)) Both (SeenFrom caps (past ++ e ∷ []) T) (λ i h part. (there i h, back i h))
      (counts_join (past ++ e ∷ []) c b (SeenFrom caps past Q) (λ i h. SeenAt caps (past ++ e ∷ []) i h (length past) e.who)
      (counts_grow past e c (SeenFrom caps past Q) (SeenFrom caps past Q) (λ i h part. (λ x. x, λ x. x)) (from_within Q) k) own)
    where
      Both : ℕ → ℕ → Type 0
      Both i h = SeenFrom caps past Q i h ⊎ SeenAt caps (past ++ e ∷ []) i h (length past) e.who

      there : (i h : ℕ) → Both i h → SeenFrom caps (past ++ e ∷ []) T i h
      there i h (inl before) = from_old Q T agree i h before
      there i h (inr seen) = from_new T is i h seen

      back : (i h : ℕ) → SeenFrom caps (past ++ e ∷ []) T i h → Both i h
      back i h seen = elim (from_push Q T agree i h seen) [ inl before ↦ inl before | inr new ↦ inr new.1 ]

  -- e alone passes: the clock of its begin
  pub from_only : (T : ℕ → Op → Type 0) (b : ℕ → ℕ) → ((k : ℕ) (s : Event) → At past k s → T k s.op → ⊥) → T (length past) e.op
      → CountsAt caps (past ++ e ∷ []) (length past) e.who b → CountsFrom caps (past ++ e ∷ []) T b
  from_only T b none is own =
      counts_as (past ++ e ∷ []) b (λ i h. SeenAt caps (past ++ e ∷ []) i h (length past) e.who) (SeenFrom caps (past ++ e ∷ []) T)
      (λ i h part. (from_new T is i h, back i h)) own
    where
      agree : Agree T T
      agree k s at = (λ x. x, λ x. x)

      nothing : (i h : ℕ) → SeenFrom caps past T i h → ⊥
      nothing i h (k, s, at, is, seen) = none k s at is

      back : (i h : ℕ) → SeenFrom caps (past ++ e ∷ []) T i h → SeenAt caps (past ++ e ∷ []) i h (length past) e.who
      back i h seen = elim (from_push T T agree i h seen) [ inl before ↦ absurd (nothing i h before) | inr new ↦ new.1 ]
