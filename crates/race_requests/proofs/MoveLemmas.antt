-- Who meets nobody by an offer, and which default stands back.
use Rattle.std.proofs.Common.{◌≡◌, ℕ, ◌+◌, ◌-◌, ◌==◌, ◌&&◌, cond, Bool, true, false, true≢false, List, [], ◌∷◌}
use Rattle.std.proofs.Common.{length, filter, slice_get, Option, Some, None, refl, sym, ap, ◌∙◌, arith}
use Rattle.std.proofs.lemmas.{Bool.Decides.nat_tests, List.Folds.list_any_at}
use Rattle.std.{proofs.lemmas.Option.{none-some, slice_get_within, get_or_from_slice_get}, specs.List.list_any}
use Rattle.race_records.specs.declared.event.{Event.Event, Op.{Op, TheVariants.Meet}}
use Rattle.race_requests.specs.{declared.{choice.Choice.Choice, request.{Offer.Offer, Waiter.Waiter}}, Table.offers_of}
use Rattle.race_requests.specs.{Choices.{choice, lone_event, meet_event, is_legal_next, is_possible}, Waiting.sent_on}
use Rattle.race_requests.{specs.Waiting.{receives_from, receives, receives_at}, proofs.ChoiceLemmas.meets_by}

-- where no element passes, this one doesn't
none_at : {X : Type 0} (p : X → Bool) (xs : List X) (k : ℕ) (x : X) → list_any p xs ≡ false → slice_get xs k ≡ Some x → p x ≡ false
none_at p xs k x none there = by (p x) refl
  where
    by : (b : Bool) → p x ≡ b → p x ≡ false
    by false is = is
    by true is =
        absurd (true≢false (sym (list_any_at p xs k x (slice_get_within xs k x there) (ap p (get_or_from_slice_get xs k x x there) ∙ is)) ∙ none))

-- an offer to send is met by those alone that receive from the channel
no_meet : (r c v : ℕ) (y : Option Offer) → ((o : Offer) → y ≡ Some o → receives_from c o ≡ false) → meets_by r (Some (Offer.Send (Some c) v)) y ≡ None
no_meet r c v None each = refl
no_meet r c v (Some (Offer.Send d u)) each = refl
no_meet r c v (Some (Offer.Recv None)) each = refl
no_meet r c v (Some (Offer.Recv (Some d))) each =
    let other : (d == c) ≡ false = each (Offer.Recv (Some d)) refl in
    ap (λ b. cond b (Some (Meet r c v)) None) (let e : (c == d) ≡ false = grind (arith, nat_tests) in e)

-- what an offer sends on
record IsSent (c : ℕ) (x : Option Offer) : Type 0 where
  value : ℕ
  offer : x ≡ Some (Offer.Send (Some c) value)

sent_is : (c : ℕ) (x : Option Offer) → Some c ≡ sent_on x → IsSent c x
sent_is c (Some (Offer.Send (Some d) v)) is = record { value = v; offer = ap (λ e. Some (Offer.Send e v)) (sym is) }
sent_is c _ is = absurd (let no : Some c ≡ None = is in cc)

module _ (caps : ℕ → ℕ) (past : List Event) (waiting : List Waiter) (w : Waiter) (place branch p q c : ℕ) (there : slice_get waiting place ≡ Some w) where
  -- the event of the two
  abbrev made_with : ℕ → Option Waiter → Option Event
  made_with k r = elim r [ None ↦ None | Some r ↦ meet_event w branch r k ]

  abbrev event_by : Option Op → Waiter → Option Event
  event_by op r = elim op [
    | None ↦ None
    | Some op ↦ Some (record { who = w.who; op = op; place = w.asked.place; place2 = Some r.asked.place })
  ]

  none_made : (v : ℕ) → slice_get (offers_of w.asked.ask) branch ≡ Some (Offer.Send (Some c) v) → (r : Option Waiter)
      → elim r [ None ↦ false | Some r ↦ receives c r.asked.ask ] ≡ false → made_with q r ≡ None
  none_made v sends None none = refl
  none_made v sends (Some r) none =
      ap (λ (op : Option Op). event_by op r)
      (ap (λ x. meets_by r.who x (slice_get (offers_of r.asked.ask) q)) sends
      ∙ no_meet r.who c v (slice_get (offers_of r.asked.ask) q) (λ o. none_at (receives_from c) (offers_of r.asked.ask) q o none))

  -- who doesn't receive from the channel is passed over
  pub passed_over : Some c ≡ sent_on (slice_get (offers_of w.asked.ask) branch) → receives_at waiting c p ≡ false
      → is_possible caps past waiting (choice place branch (p + 1) (q + 1)) ≡ false
  passed_over sends none =
      let sent = sent_is c (slice_get (offers_of w.asked.ask) branch) sends in
      let some : ((p + 1) == 0) ≡ false = grind (arith, nat_tests) in
      let back : p + 1 - 1 ≡ p = omega arith in
      let back_too : q + 1 - 1 ≡ q = omega arith in
      ap (is_legal_next caps past)
      (ap (λ (o : Option Waiter). elim o [
        | None ↦ None
        | Some v ↦ cond ((p + 1) == 0) (lone_event past v branch) (elim (slice_get waiting (p + 1 - 1)) [
          | None ↦ None
          | Some r ↦ meet_event v branch r (q + 1 - 1)
        ])
      ]) there
      ∙ (λ i. cond (some i) (lone_event past w branch) (made_with (back_too i) (slice_get waiting (back i))))
      ∙ none_made sent.value sent.offer (slice_get waiting p) none)

-- Whether one of those that pass the one test passes the other.
module _ (p q : Choice → Bool) where
  abbrev both_pass : List Choice → List Choice
  both_pass xs = filter (λ x. p x && q x) xs

  pub some_of_both : (xs : List Choice) (t : Choice) → slice_get (filter (λ x. p x && q x) xs) 0 ≡ Some t → list_any q (filter p xs) ≡ true
  some_of_both [] t is = absurd (none-some t is)
  some_of_both (x ∷ xs) t is = on (p x) is (some_of_both xs t)
    where
      on : (a : Bool) → slice_get (cond (a && q x) (x ∷ both_pass xs) (both_pass xs)) 0 ≡ Some t
          → (slice_get (both_pass xs) 0 ≡ Some t → list_any q (filter p xs) ≡ true) → list_any q (cond a (x ∷ filter p xs) (filter p xs)) ≡ true
      on a is rest = grind arith

  pub none_of_both : (xs : List Choice) → length (filter (λ x. p x && q x) xs) ≡ 0 → list_any q (filter p xs) ≡ false
  none_of_both [] is = refl
  none_of_both (x ∷ xs) is = on (p x) is (none_of_both xs)
    where
      on : (a : Bool) → length (cond (a && q x) (x ∷ both_pass xs) (both_pass xs)) ≡ 0
          → (length (both_pass xs) ≡ 0 → list_any q (filter p xs) ≡ false) → list_any q (cond a (x ∷ filter p xs) (filter p xs)) ≡ false
      on a is rest = grind arith
