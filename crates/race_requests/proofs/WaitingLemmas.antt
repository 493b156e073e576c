-- What a waiting list names has a row in the tables of a replay that stands for its events.
use Rattle.std.proofs.Common.{ℕ, ◌≡◌, ◌<◌, ◌≤◌, All, slice_get, nat_lt, true, IfSome, List, Option}
use Rattle.std.proofs.Common.{Some, None, IsTrue, refl, sym, ap, subst, arith}
use Rattle.std.proofs.lemmas.Bool.{and_parts, Decides.nat_tests}
use Rattle.race_records.specs.declared.{event.Event.Event, kind.Kind.Kind}
use Rattle.race_records.specs.Declarations.{Declaration, count_of, counts_of}
use Rattle.race_legal.specs.{ReplayState.{ReplayState, counts_in}, StandsFor.StandsFor}
use Rattle.race_requests.specs.declared.request.{Offer.Offer, Waiter.Waiter}
use Rattle.race_requests.specs.{Possible.{ask_is_in_range, offer_is_in_range}, Choices.{branches, branches_at}}
use Rattle.race_requests.{specs.Waiting.{is_declared, sent_on}, proofs.{OfferLemmas.few_branches, ChoiceLemmas.all_at}}

-- what is declared has a row in the replay's tables
module _ (declarations : List Declaration) (k : ReplayState) (past : List Event) (stands : StandsFor declarations k past) where
  pub same_channels : count_of Kind.Chan declarations ≡ counts_in k Kind.Chan
  same_channels = sym (ap (λ (f : Kind → ℕ). f Kind.Chan) stands.counts)

  pub who_is_in_range : (w : Waiter) → IsTrue (is_declared declarations w) → w.who < counts_in k Kind.Goroutine
  who_is_in_range w is =
      let e = ap (λ (f : Kind → ℕ). f Kind.Goroutine) stands.counts in
      let less = (and_parts (nat_lt w.who (counts_of declarations Kind.Goroutine)) (ask_is_in_range (counts_of declarations) w.asked.ask) is).0 in
      grind (arith, nat_tests)

  pub ask_is : (w : Waiter) → IsTrue (is_declared declarations w) → IsTrue (ask_is_in_range (counts_in k) w.asked.ask)
  ask_is w is =
      subst (λ (f : Kind → ℕ). IsTrue (ask_is_in_range f w.asked.ask)) (sym stands.counts)
      (and_parts (nat_lt w.who (counts_of declarations Kind.Goroutine)) (ask_is_in_range (counts_of declarations) w.asked.ask) is).1

-- the channel of an offer in range is one
pub sent_is_in_range : (chans : ℕ) (offer : Option Offer) (c : ℕ) → Some c ≡ sent_on offer
    → IfSome offer (λ o. IsTrue (offer_is_in_range chans o)) → nat_lt c chans ≡ true
sent_is_in_range chans (Some (Offer.Send (Some d) v)) c e is = subst (λ n. nat_lt n chans ≡ true) (let same : Some c ≡ Some d = e in cc) is
sent_is_in_range chans _ c e is = absurd (let no : Some c ≡ None = e in cc)

-- each request of a list of declared ones has few branches
pub few_at : (declarations : List Declaration) (waiting : List Waiter) (i : ℕ) → All (λ w. IsTrue (is_declared declarations w)) waiting
    → branches_at waiting i ≤ 17
few_at declarations waiting i all = by (slice_get waiting i) refl
  where
    by : (w : Option Waiter) → slice_get waiting i ≡ w → elim w [ Some w ↦ branches w.asked.ask | None ↦ 0 ] ≤ 17
    by None there = omega arith
    by (Some w) there =
        few_branches (counts_of declarations) w.asked.ask
        (and_parts (nat_lt w.who (counts_of declarations Kind.Goroutine)) (ask_is_in_range (counts_of declarations) w.asked.ask)
        (all_at (λ w. IsTrue (is_declared declarations w)) waiting i w all there)).1
