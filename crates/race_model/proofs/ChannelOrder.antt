-- In a legal list no channel's buffer is below empty or over full, so what a channel's edges lead from stands before what they lead to.
use Rattle.std.proofs.Common.{◌≡◌, ◌≢◌, if◌then◌else◌, ℕ, zero, suc, ◌+◌, ◌-◌, ◌<◌, ◌≤◌, ◌==◌, Bool, true, false, List}
use Rattle.std.proofs.Common.{[], ◌∷◌, ◌++◌, Some, None, take, length, slice_get, refl, sym, ap, ◌∙◌, subst, inl, inr}
use Rattle.std.proofs.{Common.{arith, eqb-true, not, lt-ltb, ltb-true, IsTrue}, lemmas.Bool.{cases_lt, cases_order}}
use Rattle.std.proofs.lemmas.Bool.{both_ways, not-false, Decides.{Decides-eqb, not_from_Decides}}
use Rattle.std.proofs.lemmas.Option.{slice_get_within}
use Rattle.race_records.specs.declared.event.{Event.Event, Op.{Op, TheVariants.{Send, Recv, RecvClosed, Close}}}
use Rattle.race_model.specs.{Events.{At, sends, receives, closes, count, IsKth}, State.{is_closed, buffered}}
use Rattle.race_model.specs.Legal.{op_rules, rules, least_broken, IsLegal}
use Rattle.race_model.proofs.{Indexes.{at_same, at_below, take_suc}, CountSteps.{as_number, count_push, count_up}}

-- where no rule of a list is broken, each one is kept
pub rules_kept : (rs : List (ℕ × Bool)) (k : ℕ) (r : ℕ × Bool) → least_broken rs ≡ None → slice_get rs k ≡ Some r → r.1 ≡ false
rules_kept [] k r none at = cc
rules_kept (s ∷ rs) k r none at = go s.1 refl none k at (λ k none at. rules_kept rs k r none at)
  where
    go : (b : Bool) → s.1 ≡ b → (if b then Some s.0 else least_broken rs) ≡ None → (k : ℕ) → slice_get (s ∷ rs) k ≡ Some r
        → ((k : ℕ) → least_broken rs ≡ None → slice_get rs k ≡ Some r → r.1 ≡ false) → r.1 ≡ false
    go true is none k at rest = cc
    go false is none zero at rest = let same : s ≡ r = cc in ap (λ (r : ℕ × Bool). r.1) (sym same) ∙ is
    go false is none (suc k) at rest = rest k none at

-- c's buffer is not below empty, and not over full
abbrev IsBounded : (ℕ → ℕ) → ℕ → List Event → Type 0
IsBounded caps c events = (count (receives c) events ≤ count (sends c) events) × (count (sends c) events ≤ count (receives c) events + caps c)

-- no rule on the operation is broken
abbrev pub RulesKept : (ℕ → ℕ) → List Event → ℕ → Op → Type 0
RulesKept caps past g o = (k : ℕ) (r : ℕ × Bool) → slice_get (op_rules caps past g o) k ≡ Some r → r.1 ≡ false

-- nothing is sent into a full buffer
not_full : (caps : ℕ → ℕ) (c : ℕ) (past : List Event) (g : ℕ) (o : Op) → IsTrue (sends c o) → RulesKept caps past g o → buffered c past ≢ caps c
not_full caps c past g (Send d v) same kept =
    subst (λ d. buffered d past ≢ caps d) (eqb-true d c same) (not_from_Decides _ (Decides-eqb _ _) (kept 2 (7, buffered d past == caps d) refl))
not_full caps c past g _ same kept = cc

-- nothing is received from an empty one
not_empty : (caps : ℕ → ℕ) (c : ℕ) (past : List Event) (g : ℕ) (o : Op) → IsTrue (receives c o) → RulesKept caps past g o
    → count (sends c) past ≢ count (receives c) past
not_empty caps c past g (Recv d v) same kept =
    subst (λ d. count (sends d) past ≢ count (receives d) past) (eqb-true d c same)
    (not_from_Decides _ (Decides-eqb _ _) (kept 1 (8, count (sends d) past == count (receives d) past) refl))
not_empty caps c past g _ same kept = cc

-- so the bounds hold with one operation more
bounded_by : (caps : ℕ → ℕ) (c : ℕ) (past : List Event) (g : ℕ) (o : Op) → RulesKept caps past g o → IsBounded caps c past
    → (count (receives c) past + as_number (receives c o) ≤ count (sends c) past + as_number (sends c o))
    × (count (sends c) past + as_number (sends c o) ≤ count (receives c) past + as_number (receives c o) + caps c)
bounded_by caps c past g (Send d v) kept (low, high) = go (d == c) refl
  where
    go : (b : Bool) → (d == c) ≡ b
        → (count (receives c) past + 0 ≤ count (sends c) past + as_number b) × (count (sends c) past + as_number b ≤ count (receives c) past + 0 + caps c)
    go false other = (omega (arith, low), omega (arith, high))
    go true same =
        let room : count (sends c) past - count (receives c) past ≢ caps c = not_full caps c past g (Send d v) same kept in
        (omega (arith, low), omega (arith, low, high, room))
bounded_by caps c past g (Recv d v) kept (low, high) = go (d == c) refl
  where
    go : (b : Bool) → (d == c) ≡ b
        → (count (receives c) past + as_number b ≤ count (sends c) past + 0) × (count (sends c) past + 0 ≤ count (receives c) past + as_number b + caps c)
    go false other = (omega (arith, low), omega (arith, high))
    go true same = let some : count (sends c) past ≢ count (receives c) past = not_empty caps c past g (Recv d v) same kept in
        (omega (arith, low, some), omega (arith, high))
bounded_by caps c past g _ kept (low, high) = (omega (arith, low), omega (arith, high))

module _ (caps : ℕ → ℕ) (events : List Event) (legal : IsLegal caps events) where
  -- the rules on an event's operation are kept
  pub kept_at : (i : ℕ) (e : Event) → At events i e → RulesKept caps (take i events) e.who e.op
  kept_at i e at k r here = rules_kept (rules caps (take i events) e) (suc (suc k)) r (legal i e at) here

  bounded_push : (c n : ℕ) (e : Event) → At events n e → IsBounded caps c (take n events) → IsBounded caps c (take n events ++ e ∷ [])
  bounded_push c n e at is =
      let both = bounded_by caps c (take n events) e.who e.op (kept_at n e at) is in
      let sent : count (sends c) (take n events ++ e ∷ []) ≡ count (sends c) (take n events) + as_number (sends c e.op) =
      count_push (sends c) (take n events) e in
      let received : count (receives c) (take n events ++ e ∷ []) ≡ count (receives c) (take n events) + as_number (receives c e.op) =
      count_push (receives c) (take n events) e in
      (omega (arith, both.0, sent, received), omega (arith, both.1, sent, received))

  -- each front is bounded
  bounded : (c n : ℕ) → n ≤ length events → IsBounded caps c (take n events)
  bounded c zero le = (omega arith, omega arith)
  bounded c (suc n) le = go (at_below events n le) (bounded c n (omega arith))
    where
      go : (e : Event) × (slice_get events n ≡ Some e) → IsBounded caps c (take n events) → IsBounded caps c (take (suc n) events)
      go (e, at) is = subst (IsBounded caps c) (sym (take_suc n events e at)) (bounded_push c n e at is)

  -- before the event at index i
  bounded_at : (c i : ℕ) (e : Event) → At events i e → IsBounded caps c (take i events)
  bounded_at c i e at = bounded c i (let within : i < length events = slice_get_within events i e at in omega arith)

  -- the kth send stands before the kth receive
  pub send_first : (c k i j : ℕ) (s r : Event) → At events i s → At events j r → IsKth (sends c) k events i s.op → IsKth (receives c) k events j r.op → i < j
  send_first c k i j s r ats atr (is_s, ns) (is_r, nr) = elim (cases_lt i j) [
    | inl up ↦ up
    | inr down ↦
        let fewer : count (sends c) (take j events) ≤ count (sends c) (take i events) = count_up (sends c) events j i down in
        let low : count (receives c) (take j events) ≤ count (sends c) (take j events) = (bounded_at c j r atr).0 in
        absurd (not_empty caps c (take j events) r.who r.op is_r (kept_at j r atr) (omega (arith, fewer, low, ns, nr)))
  ]

  -- the kth receive stands before the send numbered k plus the capacity
  pub receive_first : (c k i j : ℕ) (r s : Event) → At events i r → At events j s → IsKth (receives c) k events i r.op
      → IsKth (sends c) (k + caps c) events j s.op → i < j
  receive_first c k i j r s atr ats (is_r, nr) (is_s, ns) = elim (cases_lt i j) [
    | inl up ↦ up
    | inr down ↦
        let fewer : count (receives c) (take j events) ≤ count (receives c) (take i events) = count_up (receives c) events j i down in
        let high : count (sends c) (take j events) ≤ count (receives c) (take j events) + caps c = (bounded_at c j s ats).1 in
        absurd (not_full caps c (take j events) s.who s.op is_s (kept_at j s ats) (omega (arith, fewer, high, ns, nr)))
  ]

  -- a close stands before what finds the channel closed
  pub close_first : (c i j : ℕ) (s r : Event) → At events i s → At events j r → IsTrue (closes c s.op) → r.op ≡ RecvClosed c → i < j
  close_first c i j s r ats atr is_s is_r = elim (cases_order i j) [
    | inl same ↦ let one : s ≡ r = at_same events i s r ats (ap (slice_get events) same ∙ atr) in
        absurd (no_close (sym (ap (λ e. closes c e.op) one ∙ ap (closes c) is_r) ∙ is_s))
    | inr (inl up) ↦ up
    | inr (inr down) ↦ absurd (both_ways (is_closed c (take i events)) (unclosed s.op is_s (kept_at i s ats)) (still down))
  ]
    where
      no_close : closes c (RecvClosed c) ≡ true → ⊥
      no_close is = cc

      unclosed : (o : Op) → IsTrue (closes c o) → RulesKept caps (take i events) s.who o → is_closed c (take i events) ≡ false
      unclosed (Close d) same kept = subst (λ d. is_closed d (take i events) ≡ false) (eqb-true d c same) (kept 0 (12, is_closed d (take i events)) refl)
      unclosed _ same kept = cc

      closed : is_closed c (take j events) ≡ true
      closed = not-false _ (subst (λ o. RulesKept caps (take j events) r.who o) is_r (kept_at j r atr) 0 (10, not (is_closed c (take j events))) refl)

      still : j < i → is_closed c (take i events) ≡ true
      still down =
          let more : count (closes c) (take j events) ≤ count (closes c) (take i events) = count_up (closes c) events j i (omega arith) in
          let some : 0 < count (closes c) (take j events) = ltb-true 0 (count (closes c) (take j events)) closed in
          lt-ltb 0 (count (closes c) (take i events)) (omega (arith, more, some))
