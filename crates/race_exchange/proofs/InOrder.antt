-- Each list has another order in which no two independent neighbours are turned.
use Rattle.std.proofs.Common.{◌≡◌, ◌⊎◌, ℕ, zero, suc, ◌+◌, ◌<◌, ◌≤◌, Bool, true, false, cond, nat_lt, List, [], ◌∷◌, ◌++◌, Some, count_by}
use Rattle.std.proofs.Common.{slice_get, refl, sym, ap, ◌∙◌, subst, inl, inr, arith, ltb-true, le-ltb}
use Rattle.std.proofs.lemmas.{Bool.{and_parts}, List.Sums.sum_by-cons, Option.same_Some}
use Rattle.race_records.specs.declared.event.Event.{Event}
use Rattle.race_model.specs.Events.{At}
use Rattle.race_exchange.specs.Independent.{are_independent, are_turned}
use Rattle.race_exchange.specs.Exchange.{IsExchanged, SameButForOrder, same, exchanged, IsInOrder}
use Rattle.race_exchange.proofs.{Exchanged.count_exchanged, OtherOrders.{by_one, then_order}}

-- how many pairs of events have the greater goroutine first
abbrev inversions : List Event → ℕ
inversions [] = 0
inversions (e ∷ events) = count_by (λ later. nat_lt later.who e.who) events + inversions events

-- one more stands in front, and it is less, or not
count_less : (n : ℕ) (e : Event) (events : List Event) → nat_lt e.who n ≡ true
    → count_by (λ later. nat_lt later.who n) (e ∷ events) ≡ 1 + count_by (λ later. nat_lt later.who n) events
count_less n e events less = sum_by-cons (λ later. cond (nat_lt later.who n) 1 0) e events
    ∙ ap (λ b. cond b 1 0 + count_by (λ later. nat_lt later.who n) events) less

count_not_less : (n : ℕ) (e : Event) (events : List Event) → nat_lt e.who n ≡ false
    → count_by (λ later. nat_lt later.who n) (e ∷ events) ≡ 0 + count_by (λ later. nat_lt later.who n) events
count_not_less n e events most = sum_by-cons (λ later. cond (nat_lt later.who n) 1 0) e events
    ∙ ap (λ b. cond b 1 0 + count_by (λ later. nat_lt later.who n) events) most

-- where two neighbours of which the greater goroutine is first change places, there is one less
one_less : (before : List Event) (a b : Event) (rest : List Event) → nat_lt b.who a.who ≡ true
    → inversions (before ++ a ∷ b ∷ rest) ≡ 1 + inversions (before ++ b ∷ a ∷ rest)
one_less [] a b rest less =
    let back : nat_lt a.who b.who ≡ false = le-ltb a.who b.who (let up : b.who < a.who = ltb-true b.who a.who less in omega arith) in
    let more = count_less a.who b rest less in
    let none = count_not_less b.who a rest back in
    omega (arith, more, none)
one_less (e ∷ before) a b rest less =
    let fewer = one_less before a b rest less in
    let alike = count_exchanged before a b rest (λ later. nat_lt later.who e.who) in
    omega (arith, fewer, alike)

-- an exchange behind one event more
abbrev one_more : (e : Event) (one other : List Event) → IsExchanged one other → IsExchanged (e ∷ one) (e ∷ other)
one_more e one other is = record {
  before = e ∷ is.before;
  a = is.a;
  b = is.b;
  next = is.next;
  after = is.after;
  independent = is.independent;
  one_is = ap (λ es. e ∷ es) is.one_is;
  other_is = ap (λ es. e ∷ es) is.other_is;
}

-- the exchange turns two events, of which the greater goroutine was first
abbrev Turns : (one other : List Event) → IsExchanged one other → Type 0
Turns one other is = nat_lt is.b.who is.a.who ≡ true

-- with such an exchange a list has one pair less
fewer : (one other : List Event) (is : IsExchanged one other) → Turns one other is → inversions one ≡ 1 + inversions other
fewer one other is turns = ap inversions is.one_is ∙ one_less is.before is.a is.b (is.next ∷ is.after) turns
    ∙ ap (λ es. 1 + inversions es) (sym is.other_is)

-- no two neighbours after which something comes pass the test
abbrev pub OrderBy : (Event → Event → Bool) → List Event → Type 0
OrderBy test events = (i : ℕ) (a b next : Event) → At events i a → At events (i + 1) b → At events (i + 2) next → test a b ≡ false

one_further : (i n : ℕ) → suc i + n ≡ suc (i + n)
one_further i n = omega arith

-- so it is with one event more in front that doesn't pass it with the next
pub order_more : (test : Event → Event → Bool) (a : Event) (events : List Event) → ((b next : Event) → At events 0 b → At events 1 next → test a b ≡ false)
    → OrderBy test events → OrderBy test (a ∷ events)
order_more test a events first order zero c d next atc atd atn = ap (λ e. test e d) (same_Some c a (sym atc)) ∙ first d next atd atn
order_more test a events first order (suc i) c d next atc atd atn = order i c d next atc
    (subst (λ n. slice_get (a ∷ events) n ≡ Some d) (one_further i 1) atd) (subst (λ n. slice_get (a ∷ events) n ≡ Some next) (one_further i 2) atn)

pub order_none : (test : Event → Event → Bool) → OrderBy test []
order_none test i a b next ata atb atn = cc

pub order_one : (test : Event → Event → Bool) (a : Event) → OrderBy test (a ∷ [])
order_one test a = order_more test a [] (λ b next atb atn. cc) (order_none test)

pub order_two : (test : Event → Event → Bool) (a b : Event) → OrderBy test (a ∷ b ∷ [])
order_two test a b = order_more test a (b ∷ []) (λ c next atc atn. cc) (order_one test b)

pub order_on : (test : Event → Event → Bool) (a b : Event) (rest : List Event) → test a b ≡ false → OrderBy test (b ∷ rest) → OrderBy test (a ∷ b ∷ rest)
order_on test a b rest right order = order_more test a (b ∷ rest) (λ c next atc atn. ap (test a) (same_Some c b (sym atc)) ∙ right) order

-- a list is in order, or there is an exchange that turns two events
find_turned : (events : List Event) → IsInOrder events ⊎ ((other : List Event) × (is : IsExchanged events other) × Turns events other is)
find_turned [] = inl (order_none are_turned)
find_turned (a ∷ []) = inl (order_one are_turned a)
find_turned (a ∷ b ∷ []) = inl (order_two are_turned a b)
find_turned (a ∷ b ∷ next ∷ after) = by (are_turned a b) refl (find_turned (b ∷ next ∷ after))
  where
    by : (turned : Bool) → are_turned a b ≡ turned
        → IsInOrder (b ∷ next ∷ after) ⊎ ((other : List Event) × (is : IsExchanged (b ∷ next ∷ after) other) × Turns (b ∷ next ∷ after) other is)
        → IsInOrder (a ∷ b ∷ next ∷ after) ⊎ ((other : List Event) × (is : IsExchanged (a ∷ b ∷ next ∷ after) other) × Turns (a ∷ b ∷ next ∷ after) other is)
    by true is rest =
        let parts = and_parts (are_independent a b) (nat_lt b.who a.who) is in
        inr (
          b ∷ a ∷ next ∷ after,
          record { before = []; a = a; b = b; next = next; after = after; independent = parts.0; one_is = refl; other_is = refl },
          parts.1,
        )
    by false is (inl order) = inl (order_on are_turned a b (next ∷ after) is order)
    by false is (inr (other, exchange, turns)) = inr (a ∷ other, one_more a (b ∷ next ∷ after) other exchange, turns)

-- another order of the events that is in order, and in which something holds
abbrev pub OrderWith : (List Event → Type 0) → List Event → Type 0
OrderWith P events = (other : List Event) × SameButForOrder events other × P other × IsInOrder other

module _ (P : List Event → Type 0) (keep : (one other : List Event) → IsExchanged one other → P one → P other) where
  by_turning : (n : ℕ) (events : List Event) → inversions events ≤ n → P events → OrderWith P events
  by_turning zero events few holds = elim (find_turned events) [
    | inl order ↦ (events, same, holds, order)
    | inr (other, is, turns) ↦ let less = fewer events other is turns in absurd (omega (arith, few, less))
  ]
  by_turning (suc n) events few holds = elim (find_turned events) [
    | inl order ↦ (events, same, holds, order)
    | inr (other, is, turns) ↦
        let less = fewer events other is turns in
        let rest = by_turning n other (omega (arith, few, less)) (keep events other is holds) in
        (rest.0, exchanged is rest.1, rest.2, rest.3)
  ]

  -- each list has another order that is in order, and in which what exchanges keep holds too
  pub in_order : (events : List Event) → P events → OrderWith P events
  in_order events holds = by_turning (inversions events) events (omega arith) holds

-- each list has another order that is in order
pub has_an_order : (events : List Event) → (other : List Event) × SameButForOrder events other × IsInOrder other
has_an_order events = let found = in_order (λ es. SameButForOrder events es) (λ one other is so_far. then_order so_far (by_one is)) events same in
    (found.0, found.1, found.3)
