-- A queue of clocks, one event on.
use Rattle.std.proofs.Common.{◌≡◌, ℕ, ◌+◌, ◌-◌, ◌<◌, Bool, true, false, List, [], ◌∷◌, ◌++◌, take, drop, length, get_or}
use Rattle.std.proofs.Common.{refl, sym, ap, ◌∙◌, subst, inl, inr, arith, length-append, length-drop}
use Rattle.std.proofs.lemmas.{Bool.cases_lt, List.{get_or-drop, get_or_append_left, take_all}, Option.slice_get_within}
use Rattle.std.proofs.Math.Seq.{get_or-append_seam}
use Rattle.race_records.specs.declared.event.{Event.Event, Op.Op}
use Rattle.race_model.{specs.{Events.{At, count, IsKth}, Clocks.CountsFrom}, proofs.ClockSteps.CountsAt}
use Rattle.race_model.proofs.{CountSteps.{count_push, count_below, as_number}, ClockLemmas.{front_old, front_new}}
use Rattle.race_model.proofs.SourceSteps.{Agree, from_same, from_only}
use Rattle.race_clock.specs.{ClockState.knows, StandsFor.IsQueue}

-- which event is number n of its kind stays
pub kth_agrees : (caps : ℕ → ℕ) (past : List Event) (e : Event) (kind : Op → Bool) (n : ℕ)
    → Agree caps past e (IsKth kind n past) (IsKth kind n (past ++ e ∷ []))
kth_agrees caps past e kind n k s at =
    let same : count kind (take k (past ++ e ∷ [])) ≡ count kind (take k past) =
    ap (count kind) (front_old past e k (let less : k < length past = slice_get_within past k s at in omega arith)) in
    (λ is. (is.0, same ∙ is.1), λ is. (is.0, sym same ∙ is.1))

-- all of a kind stand below their count
pub kth_below : (past : List Event) (kind : Op → Bool) (n k : ℕ) (s : Event) → At past k s → IsKth kind n past k s.op → n < count kind past
kth_below past kind n k s at (is, number) =
    let below : count kind (take k past) < count kind (take (length past) past) =
    count_below kind past k (length past) s at is (slice_get_within past k s at) in
    let whole : count kind (take (length past) past) ≡ count kind past = ap (count kind) (take_all (length past) past (omega arith)) in
    omega (arith, below, whole, number)

-- the first clock is that of number `first`
pub queue_front : (caps : ℕ → ℕ) (past : List Event) (kind : Op → Bool) (first : ℕ) (queue : List (List ℕ))
    → IsQueue caps past kind first queue → 0 < length queue
    → CountsFrom caps past (IsKth kind first past) (knows (get_or queue 0 []))
queue_front caps past kind first queue q some =
    subst (λ n. CountsFrom caps past (IsKth kind n past) (knows (get_or queue 0 []))) (let zero : first + 0 ≡ first = omega arith in zero) (q.each 0 some)

-- without it the queue begins with the next number
pub queue_pop : (caps : ℕ → ℕ) (past : List Event) (kind : Op → Bool) (first : ℕ) (queue : List (List ℕ))
    → IsQueue caps past kind first queue → 0 < length queue
    → IsQueue caps past kind (first + 1) (drop 1 queue)
queue_pop caps past kind first queue q some = record {
  all = let less : length (drop 1 queue) ≡ length queue - 1 = length-drop 1 queue in
      let all : first + length queue ≡ count kind past = q.all in omega (arith, less, all, some);
  each = λ j less.
      let short : length (drop 1 queue) ≡ length queue - 1 = length-drop 1 queue in
      subst (λ n. CountsFrom caps past (IsKth kind n past) (knows (get_or (drop 1 queue) j [])))
      (let sum : first + (1 + j) ≡ first + 1 + j = omega arith in sum)
      (subst (λ c. CountsFrom caps past (IsKth kind (first + (1 + j)) past) (knows c))
      (sym (get_or-drop 1 queue j [])) (q.each (1 + j) (omega (arith, less, short))));
}

module _ (caps : ℕ → ℕ) (past : List Event) (e : Event) (kind : Op → Bool) (first : ℕ) (queue : List (List ℕ)) (q : IsQueue caps past kind first queue) where
  -- an event of another kind
  pub queue_same : kind e.op ≡ false → IsQueue caps (past ++ e ∷ []) kind first queue
  queue_same other = record {
    all =
        let more : count kind (past ++ e ∷ []) ≡ count kind past + as_number (kind e.op) = count_push kind past e in
        let zero : as_number (kind e.op) ≡ 0 = ap as_number other in let all : first + length queue ≡ count kind past = q.all in omega (arith, more, zero, all);
    each =
        λ j less. from_same caps past e (IsKth kind (first + j) past) (IsKth kind (first + j) (past ++ e ∷ [])) (knows (get_or queue j []))
        (kth_agrees caps past e kind (first + j)) (λ is. let of_kind : kind e.op ≡ true = is.0 in cc) (q.each j less);
  }

  -- an event of the kind puts the clock of its begin behind the others
  pub queue_push : (b : List ℕ) → kind e.op ≡ true → CountsAt caps (past ++ e ∷ []) (length past) e.who (knows b)
      → IsQueue caps (past ++ e ∷ []) kind first (queue ++ b ∷ [])
  queue_push b is own = record {
    all =
        let more : count kind (past ++ e ∷ []) ≡ count kind past + as_number (kind e.op) = count_push kind past e in
        let unit : as_number (kind e.op) ≡ 1 = ap as_number is in
        let all : first + length queue ≡ count kind past = q.all in omega (arith, more, unit, all, long);
    each = λ j less. elim (cases_lt j (length queue)) [
      | inl old ↦
          subst (λ c. CountsFrom caps (past ++ e ∷ []) (IsKth kind (first + j) (past ++ e ∷ [])) (knows c)) (sym (get_or_append_left queue (b ∷ []) [] j old))
          (from_same caps past e (IsKth kind (first + j) past) (IsKth kind (first + j) (past ++ e ∷ []))
          (knows (get_or queue j [])) (kth_agrees caps past e kind (first + j))
          (late j old) (q.each j old))
      | inr end ↦ last j (omega (arith, less, end, long))
    ];
  }
    where
      long : length (queue ++ b ∷ []) ≡ length queue + 1
      long = length-append queue (b ∷ [])

      -- e isn't one of the earlier numbers
      late : (j : ℕ) → j < length queue → IsKth kind (first + j) (past ++ e ∷ []) (length past) e.op → ⊥
      late j old (of_kind, number) =
          let whole : count kind (take (length past) (past ++ e ∷ [])) ≡ count kind past = ap (count kind) (front_new past e (length past) refl) in
          let all : first + length queue ≡ count kind past = q.all in
          omega (arith, number, whole, all, old)

      new : CountsFrom caps (past ++ e ∷ []) (IsKth kind (first + length queue) (past ++ e ∷ [])) (knows b)
      new = from_only caps past e (IsKth kind (first + length queue) (past ++ e ∷ [])) (knows b)
          (λ k s at kth. let below : first + length queue < count kind past = kth_below past kind (first + length queue) k s at
          ((kth_agrees caps past e kind (first + length queue) k s at).1 kth) in
          let all : first + length queue ≡ count kind past = q.all in omega (arith, below, all))
          (is, ap (count kind) (front_new past e (length past) refl) ∙ sym q.all) own

      last : (j : ℕ) → j ≡ length queue → CountsFrom caps (past ++ e ∷ []) (IsKth kind (first + j) (past ++ e ∷ [])) (knows (get_or (queue ++ b ∷ []) j []))
      last j is_end = subst (λ j. CountsFrom caps (past ++ e ∷ []) (IsKth kind (first + j) (past ++ e ∷ [])) (knows (get_or (queue ++ b ∷ []) j [])))
          (sym is_end)
          (subst (λ c. CountsFrom caps (past ++ e ∷ []) (IsKth kind (first + length queue) (past ++ e ∷ [])) (knows c))
          (sym (get_or-append_seam queue b [] [])) new)
