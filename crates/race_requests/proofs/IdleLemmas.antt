-- Who can do nothing, alone or with another.
use Rattle.std.proofs.Common.{◌≡◌, ℕ, ◌+◌, ◌-◌, ◌==◌, ◌&&◌, not, cond, Bool, true, false, List, slice_get, Option, Some}
use Rattle.std.proofs.{Common.{None, refl, sym, ap, ◌∙◌, arith}, lemmas.Bool.Decides.nat_tests}
use Rattle.race_records.specs.declared.event.Event.{Event}
use Rattle.race_model.specs.State.{over, runs}
use Rattle.race_requests.specs.{declared.request.{Offer.Offer, Waiter.Waiter}, Table.offers_of, Choices.choice}
use Rattle.race_requests.specs.{Choices.{lone_event, meet_event, is_legal_next, is_possible}, Possible.goes_on}
use Rattle.race_requests.{specs.Waiting.{sent_on, receives_at}, proofs.{ChoiceLemmas.meets_by, MoveLemmas.passed_over}}
use Rattle.race_requests.proofs.PossibleLemmas.{each_row}

-- who can't go on in the words of the run so far makes no legal event
pub none_goes_on : (caps : ℕ → ℕ) (past : List Event) (w : Waiter) (k : ℕ) → goes_on caps past w.who w.asked.ask k ≡ false
    → is_legal_next caps past (lone_event past w k) ≡ false
none_goes_on caps past w k stays =
    each_row caps past w k ∙ ap (λ b. not (over past) && (runs w.who past && b)) stays ∙ nothing (over past) (runs w.who past)
  where
    nothing : (o r : Bool) → (not o && (r && false)) ≡ false
    nothing true r = refl
    nothing false true = refl
    nothing false false = refl

-- what sends on no channel hands nothing over
no_meet : (r : ℕ) (x y : Option Offer) → sent_on x ≡ None → meets_by r x y ≡ None
no_meet r None y is = refl
no_meet r (Some (Offer.Recv d)) None is = refl
no_meet r (Some (Offer.Recv d)) (Some b) is = refl
no_meet r (Some (Offer.Send None v)) None is = refl
no_meet r (Some (Offer.Send None v)) (Some b) is = refl
no_meet r (Some (Offer.Send (Some c) v)) y is = absurd (let e : Some c ≡ None = is in cc)

module _ (caps : ℕ → ℕ) (past : List Event) (waiting : List Waiter) (w : Waiter) (place branch : ℕ) (there : slice_get waiting place ≡ Some w) where
  pub alone_is : is_possible caps past waiting (choice place branch 0 0) ≡ is_legal_next caps past (lone_event past w branch)
  alone_is = ap (λ (o : Option Waiter). is_legal_next caps past (elim o [
    | None ↦ None
    | Some v ↦ cond (0 == 0) (lone_event past v branch) (elim (slice_get waiting (0 - 1)) [
      | None ↦ None
      | Some r ↦ meet_event v branch r (0 - 1)
    ])
  ])) there

  abbrev made_with : ℕ → Option Waiter → Option Event
  made_with k r = elim r [ None ↦ None | Some r ↦ meet_event w branch r k ]

  none_made : (q : ℕ) (r : Option Waiter) → sent_on (slice_get (offers_of w.asked.ask) branch) ≡ None → made_with q r ≡ None
  none_made q None none = refl
  none_made q (Some r) none =
      ap (λ op. elim op [
        | None ↦ None
        | Some op ↦ Some (record { who = w.who; op = op; place = w.asked.place; place2 = Some r.asked.place })
      ]) (no_meet r.who (slice_get (offers_of w.asked.ask) branch) (slice_get (offers_of r.asked.ask) q) none)

  unsent : (p q : ℕ) → sent_on (slice_get (offers_of w.asked.ask) branch) ≡ None → is_possible caps past waiting (choice place branch (p + 1) (q + 1)) ≡ false
  unsent p q none =
      let some : ((p + 1) == 0) ≡ false = grind (arith, nat_tests) in
      ap (is_legal_next caps past)
      (ap (λ (o : Option Waiter). elim o [
        | None ↦ None
        | Some v ↦ cond ((p + 1) == 0) (lone_event past v branch) (elim (slice_get waiting (p + 1 - 1)) [
          | None ↦ None
          | Some r ↦ meet_event v branch r (q + 1 - 1)
        ])
      ]) there
      ∙ (λ i. cond (some i) (lone_event past w branch) (made_with (q + 1 - 1) (slice_get waiting (p + 1 - 1))))
      ∙ none_made (q + 1 - 1) (slice_get waiting (p + 1 - 1)) none)

  -- where nobody receives what it may send, it meets nobody
  pub meets_nobody : ((c p : ℕ) → sent_on (slice_get (offers_of w.asked.ask) branch) ≡ Some c → receives_at waiting c p ≡ false)
      → (p q : ℕ) → is_possible caps past waiting (choice place branch (p + 1) (q + 1)) ≡ false
  meets_nobody none p q = by (sent_on (slice_get (offers_of w.asked.ask) branch)) refl
    where
      by : (o : Option ℕ) → sent_on (slice_get (offers_of w.asked.ask) branch) ≡ o → is_possible caps past waiting (choice place branch (p + 1) (q + 1)) ≡ false
      by None is = unsent p q is
      by (Some c) is = passed_over caps past waiting w place branch p q c there (sym is) (none c p is)
