-- What reaches what, where two events that are apart have changed places.
use Rattle.std.proofs.Common.{◌≡◌, ℕ, suc, ◌+◌, List, ◌∷◌, ◌++◌, length, sym, ap, ◌∙◌, subst, inl, inr, slice_get, IsTrue}
use Rattle.std.proofs.Common.{arith}
use Rattle.race_records.specs.declared.event.Event.{Event}
use Rattle.race_model.specs.{Events.{TakesPart, takes_part}, Order.{Point, Begin, End, SynchronizedBefore, Step}}
use Rattle.race_model.{specs.Order.{Reaches, one_step, then_step}, proofs.Indexes.at_same}
use Rattle.race_exchange.proofs.{Moved.{moved, moved_up, at_moved, at_first, at_second}, Apart.Apart}
use Rattle.race_exchange.proofs.SourcesKept.{source_moved}

-- the point at its new index
abbrev pub moved_point : ℕ → Point → Point
moved_point n (Begin i g) = Begin (moved n i) g
moved_point n (End i g) = End (moved n i) g

module _ (caps : ℕ → ℕ) (before rest : List Event) (a b : Event) (apart : Apart a b) where
  abbrev listed : List Event
  listed = before ++ a ∷ b ∷ rest

  abbrev turned : List Event
  turned = before ++ b ∷ a ∷ rest

  -- a part stays one
  part_moved : (i g : ℕ) → TakesPart listed i g → TakesPart turned (moved (length before) i) g
  part_moved i g (e, at, is) = (e, at_moved before rest a b i e at, is)

  -- no goroutine takes part in both
  not_in_both : (i j g h : ℕ) → i ≡ length before → j ≡ length before + 1 → g ≡ h → TakesPart listed i g → TakesPart listed j h → ⊥
  not_in_both i j g h first second same (e, at, in_e) (f, att, in_f) =
      apart.no_goroutine g (subst (λ (e : Event). IsTrue (takes_part g e)) as_a in_e)
      (subst (λ (f : Event). IsTrue (takes_part g f)) as_b (subst (λ h. IsTrue (takes_part h f)) (sym same) in_f))
    where
      as_a : e ≡ a
      as_a = at_same listed i e a at (ap (slice_get listed) first ∙ at_first before (b ∷ rest) a)

      as_b : f ≡ b
      as_b = at_same listed j f b att (ap (slice_get listed) (let m : j ≡ suc (length before) = omega (arith, second) in m) ∙ at_second before rest a b)

  -- an edge stays one
  synchronized_moved : (i g j h : ℕ) → SynchronizedBefore caps listed (Begin i g) (End j h)
      → SynchronizedBefore caps turned (Begin (moved (length before) i) g) (End (moved (length before) j) h)
  synchronized_moved i g j h (e, at, inl (same, inside)) = (e, at_moved before rest a b j e at, inl (ap (moved (length before)) same, inside))
  synchronized_moved i g j h (e, at, inr (s, ats, source, from, to)) =
      let there = source_moved caps before rest a b apart i j e s at (ats, source) in
      (e, at_moved before rest a b j e at, inr (s, there.0, there.1, from, to))

  -- a step stays one
  step_moved : (p q : Point) → Step caps listed p q → Step caps turned (moved_point (length before) p) (moved_point (length before) q)
  step_moved (Begin i g) (End j h) (inl (same, who, part)) = inl (ap (moved (length before)) same, who, part_moved i g part)
  step_moved (Begin i g) (End j h) (inr s) = inr (synchronized_moved i g j h s)
  step_moved (End i g) (Begin j h) (inl (less, who, from, to)) = elim (moved_up (length before) i j less) [
    | inl up ↦ inl (up, who, part_moved i g from, part_moved j h to)
    | inr two ↦ absurd (not_in_both i j g h two.0 two.1 who from to)
  ]
  step_moved (End i g) (Begin j h) (inr s) = absurd s
  step_moved (Begin i g) (Begin j h) (inl s) = absurd s
  step_moved (Begin i g) (Begin j h) (inr s) = absurd s
  step_moved (End i g) (End j h) (inl s) = absurd s
  step_moved (End i g) (End j h) (inr s) = absurd s

  -- so does a way
  pub reaches_moved : {p q : Point} → Reaches caps listed p q → Reaches caps turned (moved_point (length before) p) (moved_point (length before) q)
  reaches_moved (one_step {p} {q} s) = one_step (step_moved p q s)
  reaches_moved (then_step {p} {q} {r} w s) = then_step (reaches_moved w) (step_moved q r s)
