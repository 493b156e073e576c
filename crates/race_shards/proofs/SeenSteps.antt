-- What a clock counts of a goroutine's parts is what was seen of them, and the last that was seen is the part with that number.
use Rattle.std.proofs.Common.{◌≡◌, ℕ, ◌+◌, ◌<◌, ◌≤◌, true, false, List, Option, Some, None, take, length, sym, ap, ◌∙◌}
use Rattle.std.proofs.{Common.{subst, inl, inr, arith, take-take}, lemmas.Bool.cases_order}
use Rattle.std.proofs.lemmas.List.Sums.{sum_by-take-le, count_by_more_yes, count_by_more_no}
use Rattle.std.proofs.lemmas.Option.{slice_get_within, get_or_from_slice_get}
use Rattle.race_records.specs.declared.event.Event.{Event}
use Rattle.race_model.specs.{Events.{At, takes_part, TakesPart}, Order.{Begin, Reaches}, Clocks.participations}
use Rattle.race_model.proofs.{BeforeSeen.{front_reaches, front_grow}, Indexes.slice_get-take, Ranks.reaches_up}
use Rattle.race_model.proofs.StampsLawful.{IsStamped}
use Rattle.race_verdict.specs.declared.races.Race.{Race}
use Rattle.race_clock.{specs.ClockState.knows, proofs.StampLaws.stamped}
use Rattle.race_shards.specs.{Pairs.{PairState, IsPairOf}, Seen.{who_at, HasSeen, IsLastSeen, IsPart}}

module _ (events : List Event) (g : ℕ) where
  -- an event more, in which g takes part or not
  pub one_more : (at : ℕ) (e : Event) → At events at e → takes_part g e ≡ true → participations g (take (at + 1) events) ≡ participations g (take at events) + 1
  one_more at e here is = count_by_more_yes (takes_part g) events at e (slice_get_within events at e here)
      (ap (takes_part g) (get_or_from_slice_get events at e e here) ∙ is)

  pub no_more : (at : ℕ) (e : Event) → At events at e → takes_part g e ≡ false → participations g (take (at + 1) events) ≡ participations g (take at events)
  no_more at e here is = count_by_more_no (takes_part g) events at e (slice_get_within events at e here)
      (ap (takes_part g) (get_or_from_slice_get events at e e here) ∙ is)

  -- fewer events have fewer parts
  up : (m n : ℕ) → m ≤ n → participations g (take m events) ≤ participations g (take n events)
  up m n le = subst (λ es. participations g es ≤ participations g (take n events)) (take-take m n events le) (sum_by-take-le (λ e. _) (take n events) m)

  -- a part is counted behind it
  passed : (k : ℕ) → TakesPart events k g → participations g (take (k + 1) events) ≡ participations g (take k events) + 1
  passed k (e, at, is) = one_more k e at is

module _ (caps : ℕ → ℕ) (events : List Event) (r : Race) (p : PairState) (P : IsPairOf caps events r p) where
  abbrev F : IsStamped caps events p.first.stamp.at p.first.stamp.who p.first.stamp.count (knows p.first.clock)
  F = stamped caps events p.first.stamp p.first.clock P.pair.first

  abbrev S : IsStamped caps events p.second.stamp.at p.second.stamp.who p.second.stamp.count (knows p.second.clock)
  S = stamped caps events p.second.stamp p.second.clock P.pair.second

  -- whose event stands at an index
  who_is : (i : ℕ) (e : Event) → At events i e → who_at events i ≡ e.who
  who_is i e at = ap (λ (o : Option Event). elim o as (λ _. ℕ) [ Some e ↦ e.who | None ↦ 0 ]) at

  first_who : who_at events r.first ≡ p.first.stamp.who
  first_who = ap (who_at events) (sym P.first) ∙ who_is p.first.stamp.at F.event F.stands ∙ F.actor

  second_who : who_at events r.second ≡ p.second.stamp.who
  second_who = ap (who_at events) (sym P.second) ∙ who_is p.second.stamp.at S.event S.stands ∙ S.actor

  abbrev g : ℕ
  g = p.first.stamp.who

  abbrev j : ℕ
  j = p.second.stamp.at

  abbrev h : ℕ
  h = p.second.stamp.who

  abbrev n : ℕ
  n = knows p.second.clock g

  within : j < length events
  within = slice_get_within events j S.event S.stands

  -- what was seen stands before the access, and is counted
  seen_before : (k : ℕ) → Reaches caps events (Begin k g) (Begin j h) → k < j
  seen_before k w = let higher : k + k < j + j = reaches_up w in omega arith

  counted : (k : ℕ) → TakesPart events k g → Reaches caps events (Begin k g) (Begin j h) → participations g (take k events) < n
  counted k (e, at, is) w =
      let less : k < j = seen_before k w in
      subst (λ es. participations g es < n) (take-take k (j + 1) events (omega (arith, less)))
      (S.clock.counted k g (e, slice_get-take (j + 1) events k (omega (arith, less)) ∙ at, is)
      (front_reaches caps events (j + 1) (omega (arith, within)) (omega arith) w))

  -- the clock counts no more than there are up to the access
  bound : n ≤ participations g (take (j + 1) events)
  bound = S.clock.bound g

  -- what is counted was seen
  only : (k : ℕ) → TakesPart events k g → participations g (take k events) < n → Reaches caps events (Begin k g) (Begin j h)
  only k (e, at, is) less = elim (cases_order k (j + 1)) [
    | inl same ↦ let b = bound in let same_count : participations g (take k events) ≡ participations g (take (j + 1) events) = ap (λ m. participations g (take m events)) same in
        absurd (omega (arith, less, b, same_count))
    | inr (inl below) ↦ front_grow caps events (j + 1)
        (S.clock.only k g (e, slice_get-take (j + 1) events k below ∙ at, is)
        (subst (λ es. participations g es < n) (sym (take-take k (j + 1) events (omega (arith, below)))) less))
    | inr (inr above) ↦ let b = bound in
        let higher : participations g (take (j + 1) events) ≤ participations g (take k events) = up events g (j + 1) k (omega (arith, above)) in
        absurd (omega (arith, less, b, higher))
  ]

  -- in the words of the race
  from_race : (k : ℕ) → HasSeen caps events r k → Reaches caps events (Begin k g) (Begin j h)
  from_race k seen = subst (λ x. Reaches caps events (Begin k x) (Begin j h)) first_who
      (subst (λ y. Reaches caps events (Begin k (who_at events r.first)) (Begin j y)) second_who
      (subst (λ i. Reaches caps events (Begin k (who_at events r.first)) (Begin i (who_at events r.second))) (sym P.second) seen))

  to_race : (k : ℕ) → Reaches caps events (Begin k g) (Begin j h) → HasSeen caps events r k
  to_race k w = subst (λ i. Reaches caps events (Begin k (who_at events r.first)) (Begin i (who_at events r.second))) P.second
      (subst (λ y. Reaches caps events (Begin k (who_at events r.first)) (Begin j y)) (sym second_who)
      (subst (λ x. Reaches caps events (Begin k x) (Begin j h)) (sym first_who) w))

  part_from : (k : ℕ) → TakesPart events k (who_at events r.first) → TakesPart events k g
  part_from k part = subst (TakesPart events k) first_who part

  pub last_is : (o : Option ℕ) → IsPart events g n o → IsLastSeen caps events r o
  last_is None (inl none) = λ k part seen. let c = counted k (part_from k part) (from_race k seen) in absurd (omega (arith, c, none))
  last_is None (inr few) = λ k part seen.
      let c = counted k (part_from k part) (from_race k seen) in
      let b = bound in
      let all : participations g (take (j + 1) events) ≤ participations g events = sum_by-take-le (λ e. _) events (j + 1) in
      absurd (omega (arith, few, b, all))
  last_is (Some q) (part, number) = record {
    part = subst (TakesPart events q) (sym first_who) part;
    seen = to_race q (only q part (omega (arith, number)));
    last = λ k less other seen.
        let c : participations g (take k events) < n = counted k (part_from k other) (from_race k seen) in
        let past : participations g (take (q + 1) events) ≡ participations g (take q events) + 1 = passed events g q part in
        let higher : participations g (take (q + 1) events) ≤ participations g (take k events) = up events g (q + 1) k (omega (arith, less)) in
        absurd (omega (arith, c, past, higher, number));
  }
