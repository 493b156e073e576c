-- What a request in range does names only what is in range.
use Rattle.std.proofs.Common.{◌≡◌, ℕ, ◌<◌, ◌&&◌, nat_lt, cond, Bool, true, false, Option, Some, None, IsTrue, refl, sym}
use Rattle.std.proofs.{Common.{ap, subst, ◌∙◌, slice_get, arith}, lemmas.{Bool.Decides.nat_tests, Option.none-some}}
use Rattle.race_records.specs.declared.{event.{Event.Event, Op.{Op, TheVariants.{Recv, RecvClosed}}}, kind.Kind.Kind}
use Rattle.race_records.specs.Operands.{op_is_in_range}
use Rattle.race_legal.specs.ReplayState.{ReplayState, counts_in, IsInRange}
use Rattle.race_requests.specs.{declared.request.{Ask.Ask, Waiter.Waiter}, Table.offers_of, Choices.meet_event}
use Rattle.race_requests.{specs.Possible.ask_is_in_range, proofs.OfferLemmas.sent_in_range}
use Rattle.race_requests.proofs.ChoiceLemmas.{some_is, meets_by, is_meet}

-- an operation whose one object is in range
pub alone : (b : Bool) → b ≡ true → (b && true) ≡ true
alone true is = refl
alone false is = is

module _ (counts : Kind → ℕ) where
  -- one of two operations
  pub either : (b : Bool) (this that op : Op) → op ≡ cond b this that → op_is_in_range counts this ≡ true → op_is_in_range counts that ≡ true
      → op_is_in_range counts op ≡ true
  either true this that op is p q = ap (op_is_in_range counts) is ∙ p
  either false this that op is p q = ap (op_is_in_range counts) is ∙ q

  -- a receive, of the first value if one waits
  pub received : (c : ℕ) (first : Option ℕ) (op : Op) → op ≡ elim first [ Some v ↦ Recv c v | None ↦ RecvClosed c ] → nat_lt c (counts Kind.Chan) ≡ true
      → op_is_in_range counts op ≡ true
  received c (Some v) op is less = ap (op_is_in_range counts) is ∙ alone _ less
  received c None op is less = ap (op_is_in_range counts) is ∙ alone _ less

  -- the event in which two meet
  pub meeting : (w r : Waiter) (k q : ℕ) (e : Event) → w.who < counts Kind.Goroutine → r.who < counts Kind.Goroutine
      → IsTrue (ask_is_in_range counts w.asked.ask) → Some e ≡ meet_event w k r q → IsInRange counts e
  meeting w r k q e who whom range made =
      by (meets_by r.who (slice_get (offers_of w.asked.ask) k) (slice_get (offers_of r.asked.ask) q)) refl made
    where
      both : (a b : Bool) → a ≡ true → b ≡ true → (a && (b && true)) ≡ true
      both a b p q = rw (p, q) refl

      by : (o : Option Op) → meets_by r.who (slice_get (offers_of w.asked.ask) k) (slice_get (offers_of r.asked.ask) q) ≡ o
          → Some e ≡ elim o [ None ↦ None | Some op ↦ Some (record { who = w.who; op = op; place = w.asked.place; place2 = Some r.asked.place }) ]
          → IsInRange counts e
      by None did is = absurd (none-some e (sym is))
      by (Some op) did is =
          let met = is_meet r.who (slice_get (offers_of w.asked.ask) k) (slice_get (offers_of r.asked.ask) q) op did in
          let chan = sent_in_range counts w.asked.ask k met.chan met.value range met.sends in
          let runs : nat_lt r.who (counts Kind.Goroutine) ≡ true = grind (arith, nat_tests) in
          subst (IsInRange counts) (sym (some_is is))
          (who, ap (op_is_in_range counts) met.op_is ∙ both _ _ runs chan)

-- so too where the request is in range, and names what both name
pub one_of : (k : ReplayState) (b : Bool) (this that : Op) {ask same : Ask} {op : Op} → op ≡ cond b this that → ask ≡ same
    → ask_is_in_range (counts_in k) ask ≡ true → op_is_in_range (counts_in k) this ≡ (ask_is_in_range (counts_in k) same && true)
    → op_is_in_range (counts_in k) that ≡ (ask_is_in_range (counts_in k) same && true) → op_is_in_range (counts_in k) op ≡ true
one_of k b this that is asks range p q =
    let less = alone _ (ap (ask_is_in_range (counts_in k)) (sym asks) ∙ range) in either (counts_in k) b this that _ is (p ∙ less) (q ∙ less)
