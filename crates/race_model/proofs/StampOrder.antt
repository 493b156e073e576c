-- An access happens before a stamped one exactly where the stamped one's clock knows it.
use Rattle.std.proofs.Common.{◌≡◌, ◌⊎◌, ℕ, ◌+◌, ◌<◌, ◌≤◌, List, [], ◌∷◌, ◌++◌, take, length, refl, ap, subst, inl, inr}
use Rattle.std.proofs.{Common.{arith, IsTrue}, lemmas.Option.slice_get_within}
use Rattle.race_records.specs.declared.event.Event.{Event}
use Rattle.race_model.specs.{Events.{At, TakesPart, is_access}, Order.{Begin, End, Reaches, one_step, HappensBefore}}
use Rattle.race_model.specs.Clocks.{participations, CountsBegins}
use Rattle.race_model.proofs.{Indexes.{at_same, append_at_old, slice_get-push}, Reaching.{reaches_on, who_takes_part}}
use Rattle.race_model.proofs.{BeforeSeen.{access_no_edge, leaves_by_end}, ClockLemmas.front_old}

-- c counts what reaches the begin of e, which comes behind the events past
module _ (caps : ℕ → ℕ) (past : List Event) (e : Event) (c : ℕ → ℕ)
    (k : CountsBegins (past ++ e ∷ []) c (λ i h. Reaches caps (past ++ e ∷ []) (Begin i h) (Begin (length past) e.who))) where
  same_front : (i : ℕ) (a : Event) → At past i a → participations a.who (take i (past ++ e ∷ [])) ≡ participations a.who (take i past)
  same_front i a at = ap (participations a.who) (front_old past e i (let less : i < length past = slice_get_within past i a at in omega arith))

  part_of : (i : ℕ) (a : Event) → At past i a → TakesPart (past ++ e ∷ []) i a.who
  part_of i a at = (a, append_at_old past (e ∷ []) i a at, who_takes_part a)

  -- what happens before it is known
  pub known_from_before : (i : ℕ) (a : Event) → At past i a
      → HappensBefore caps (past ++ e ∷ []) i (length past) → participations a.who (take i past) + 1 ≤ c a.who
  known_from_before i a at (x, y, atx, aty, w) =
      let same : participations a.who (take i (past ++ e ∷ [])) ≡ participations a.who (take i past) = same_front i a at in
      let less : participations a.who (take i (past ++ e ∷ [])) < c a.who = k.counted i a.who (part_of i a at) reach in
      omega (arith, same, less)
    where
      from_a : Reaches caps (past ++ e ∷ []) (End i a.who) (Begin (length past) e.who)
      from_a =
          subst (λ (y : Event). Reaches caps (past ++ e ∷ []) (End i a.who) (Begin (length past) y.who))
          (at_same (past ++ e ∷ []) (length past) y e aty (slice_get-push past e))
          (subst (λ (x : Event). Reaches caps (past ++ e ∷ []) (End i x.who) (Begin (length past) y.who))
          (at_same (past ++ e ∷ []) i x a atx (append_at_old past (e ∷ []) i a at)) w)

      reach : Reaches caps (past ++ e ∷ []) (Begin i a.who) (Begin (length past) e.who)
      reach = reaches_on (one_step (inl (refl, refl, part_of i a at))) from_a

  -- an access that is known happens before it
  pub before_from_known : (i : ℕ) (a : Event) → At past i a → IsTrue (is_access a.op) → participations a.who (take i past) + 1 ≤ c a.who
      → HappensBefore caps (past ++ e ∷ []) i (length past)
  before_from_known i a at is known = go (leaves_by_end caps (past ++ e ∷ []) i a.who (access_no_edge caps (past ++ e ∷ []) i a there is a.who) reach)
    where
      there : At (past ++ e ∷ []) i a
      there = append_at_old past (e ∷ []) i a at

      reach : Reaches caps (past ++ e ∷ []) (Begin i a.who) (Begin (length past) e.who)
      reach =
          k.only i a.who (part_of i a at)
          (let same : participations a.who (take i (past ++ e ∷ [])) ≡ participations a.who (take i past) = same_front i a at in omega (arith, same, known))

      go : (Begin (length past) e.who ≡ End i a.who) ⊎ Reaches caps (past ++ e ∷ []) (End i a.who) (Begin (length past) e.who)
          → HappensBefore caps (past ++ e ∷ []) i (length past)
      go (inl same) = cc
      go (inr w) = (a, e, there, slice_get-push past e, w)
