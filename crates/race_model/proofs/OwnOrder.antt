-- The trace's own order of its accesses.
use Rattle.std.proofs.Common.{◌≡◌, ℕ, zero, suc, ◌+◌, ◌<◌, Bool, true, false, cond, List, [], ◌∷◌, Some, slice_get}
use Rattle.std.proofs.Common.{refl, sym, ap, ◌∙◌, subst, inl, inr, arith, IsTrue, zero-add, add-zero}
use Rattle.std.proofs.lemmas.Bool.{cases_order}
use Rattle.race_records.specs.declared.event.Event.{Event}
use Rattle.race_model.specs.{Events.is_access, Reorder.{op_passes, StandsBefore, IsReordering, accesses_from}}
use Rattle.race_model.{specs.Reorder.own_order, proofs.{Indexes.at_same, Ranks.happens_before_up}}

-- one access or none in front
abbrev pub in_front : Bool → ℕ → List ℕ → List ℕ
in_front b n order = cond b (n ∷ order) order

-- what stands in it is an access
pub accesses_only : (n : ℕ) (events : List Event) (i a : ℕ) → slice_get (accesses_from n events) i ≡ Some a
    → (k : ℕ) × (a ≡ n + k) × IsTrue (op_passes is_access events k)
accesses_only n [] i a e = cc
accesses_only n (x ∷ events) i a e = go (is_access x.op) refl i e (λ j. accesses_only (n + 1) events j a)
  where
    behind : ((k : ℕ) × (a ≡ n + 1 + k) × IsTrue (op_passes is_access events k)) → (k : ℕ) × (a ≡ n + k) × IsTrue (op_passes is_access (x ∷ events) k)
    behind (k, sum, is) = (suc k, omega arith, is)

    go : (b : Bool) → is_access x.op ≡ b → (i : ℕ) → slice_get (in_front b n (accesses_from (n + 1) events)) i ≡ Some a
        → ((j : ℕ) → slice_get (accesses_from (n + 1) events) j ≡ Some a → (k : ℕ) × (a ≡ n + 1 + k) × IsTrue (op_passes is_access events k))
        → (k : ℕ) × (a ≡ n + k) × IsTrue (op_passes is_access (x ∷ events) k)
    go false is i e rest = behind (rest i e)
    go true is zero e rest = (0, (let same : n ≡ a = cc in omega arith), is)
    go true is (suc i) e rest = behind (rest i e)

-- each access stands in it
pub accesses_each : (n : ℕ) (events : List Event) (k : ℕ) → IsTrue (op_passes is_access events k)
    → (i : ℕ) × (slice_get (accesses_from n events) i ≡ Some (n + k))
accesses_each n [] k is = cc
accesses_each n (x ∷ events) zero is = rw is (0, ap Some (sym (add-zero n)))
accesses_each n (x ∷ events) (suc k) is = go (is_access x.op) (accesses_each (n + 1) events k is)
  where
    go : (b : Bool) → ((i : ℕ) × (slice_get (accesses_from (n + 1) events) i ≡ Some (n + 1 + k)))
        → (i : ℕ) × (slice_get (in_front b n (accesses_from (n + 1) events)) i ≡ Some (n + suc k))
    go false (i, at) = (i, at ∙ ap Some (omega arith))
    go true (i, at) = (suc i, at ∙ ap Some (omega arith))

-- it rises
pub accesses_rise : (n : ℕ) (events : List Event) (i j a b : ℕ) → i < j → slice_get (accesses_from n events) i ≡ Some a
    → slice_get (accesses_from n events) j ≡ Some b → a < b
accesses_rise n [] i j a b less ati atj = cc
accesses_rise n (x ∷ events) i j a b less ati atj = go (is_access x.op) i j less ati atj (λ i j less. accesses_rise (n + 1) events i j a b less)
  where
    go : (c : Bool) (i j : ℕ) → i < j → slice_get (in_front c n (accesses_from (n + 1) events)) i ≡ Some a
        → slice_get (in_front c n (accesses_from (n + 1) events)) j ≡ Some b
        → ((i j : ℕ) → i < j → slice_get (accesses_from (n + 1) events) i ≡ Some a → slice_get (accesses_from (n + 1) events) j ≡ Some b → a < b) → a < b
    go false i j less ati atj more = more i j less ati atj
    go true i zero less ati atj more = absurd (omega arith)
    go true zero (suc j) less ati atj more =
        let same : n ≡ a = cc in
        let told : (k : ℕ) × (b ≡ n + 1 + k) × IsTrue (op_passes is_access events k) = accesses_only (n + 1) events j b atj in
        omega (arith, told.1)
    go true (suc i) (suc j) less ati atj more = more i j (omega arith) ati atj

-- each access stands in the trace's own order
pub own_each : (events : List Event) (a : ℕ) → IsTrue (op_passes is_access events a) → (i : ℕ) × (slice_get (own_order events) i ≡ Some a)
own_each events a is = let found : (i : ℕ) × (slice_get (own_order events) i ≡ Some (0 + a)) = accesses_each 0 events a is in
    (found.0, found.1 ∙ ap Some (zero-add a))

-- an earlier access stands before a later one
pub own_stands_before : (events : List Event) (a b : ℕ) → a < b → IsTrue (op_passes is_access events a) → IsTrue (op_passes is_access events b)
    → StandsBefore (own_order events) a b
own_stands_before events a b up is_a is_b = apart (own_each events a is_a) (own_each events b is_b)
  where
    apart : ((i : ℕ) × (slice_get (own_order events) i ≡ Some a)) → ((j : ℕ) × (slice_get (own_order events) j ≡ Some b)) → StandsBefore (own_order events) a b
    apart (i, ati) (j, atj) = elim (cases_order i j) [
      | inl same ↦ let one : a ≡ b = at_same (own_order events) i a b ati (ap (slice_get (own_order events)) same ∙ atj) in absurd (omega arith)
      | inr (inl less) ↦ (i, j, less, ati, atj)
      | inr (inr more) ↦ let down : b < a = accesses_rise 0 events j i b a more atj ati in absurd (omega arith)
    ]

-- the trace's own order is a reordering
pub own_is_reordering : (caps : ℕ → ℕ) (events : List Event) → IsReordering caps events (own_order events)
own_is_reordering caps events = record {
  only = λ i a at.
      let told : (k : ℕ) × (a ≡ 0 + k) × IsTrue (op_passes is_access events k) = accesses_only 0 events i a at in
      subst (λ k. IsTrue (op_passes is_access events k)) (sym (told.1 ∙ zero-add told.0)) told.2;
  each = own_each events;
  once = λ i j a ati atj. elim (cases_order i j) [
    | inl same ↦ same
    | inr (inl less) ↦ let up : a < a = accesses_rise 0 events i j a a less ati atj in absurd (omega arith)
    | inr (inr more) ↦ let up : a < a = accesses_rise 0 events j i a a more atj ati in absurd (omega arith)
  ];
  kept = λ a b is_a is_b h. own_stands_before events a b (happens_before_up caps events a b h) is_a is_b;
}
