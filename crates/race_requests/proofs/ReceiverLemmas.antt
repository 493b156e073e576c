-- Who receives from a channel is a request of the list.
use Rattle.std.proofs.Common.{◌≡◌, ℕ, suc, ◌<◌, ◌||◌, Bool, true, false, List, [], ◌∷◌, arith, length, get_or}
use Rattle.std.proofs.{Common.{slice_get, Option, Some, None, refl, sym, ap, ◌∙◌, eqb-true}, lemmas.Bool.true≢false}
use Rattle.std.{proofs.lemmas.Option.{slice_get-get_or, slice_get_within}, specs.List.list_any}
use Rattle.race_requests.specs.{declared.request.{Offer.Offer, Waiter.Waiter}, Receivers.{Spans, IsInSpan, AreInSpans}}
use Rattle.race_requests.specs.Waiting.{receives_from, receives, receives_at}

within_by : (waiting : List Waiter) (c i : ℕ) (o : Option Waiter) → slice_get waiting i ≡ o
    → elim o [ None ↦ false | Some w ↦ receives c w.asked.ask ] ≡ true → i < length waiting
within_by waiting c i None at found = absurd (true≢false (sym found))
within_by waiting c i (Some w) at found = slice_get_within waiting i w at

pub receiver_within : (waiting : List Waiter) (c i : ℕ) → receives_at waiting c i ≡ true → i < length waiting
receiver_within waiting c i found = within_by waiting c i (slice_get waiting i) (λ j. slice_get waiting i) found

pub receiver_asks : (waiting : List Waiter) (c i : ℕ) (d : Waiter) → i < length waiting → receives_at waiting c i ≡ true
    → receives c (get_or waiting i d).asked.ask ≡ true
receiver_asks waiting c i d within found =
    ap (λ (o : Option Waiter). elim o [ None ↦ false | Some w ↦ receives c w.asked.ask ]) (sym (slice_get-get_or waiting i d within)) ∙ found

-- an element that passes stands somewhere
pub record IsFoundIn {X : Type 0} (p : X → Bool) (xs : List X) : Type 0 where
  pub index : ℕ
  pub element : X
  pub there : slice_get xs index ≡ Some element
  pub passes : p element ≡ true

pub any_found : {X : Type 0} (p : X → Bool) (xs : List X) → list_any p xs ≡ true → IsFoundIn p xs
any_found p [] is = absurd (true≢false (sym is))
any_found p (x ∷ xs) is = by (p x) refl is (any_found p xs)
  where
    by : (b : Bool) → p x ≡ b → (b || list_any p xs) ≡ true → (list_any p xs ≡ true → IsFoundIn p xs) → IsFoundIn p (x ∷ xs)
    by true here is rest = record { index = 0; element = x; there = refl; passes = here }
    by false here is rest = let later = rest is in record { index = suc later.index; element = later.element; there = later.there; passes = later.passes }

-- an offer that receives from the channel
pub received_is : (c : ℕ) (o : Offer) → receives_from c o ≡ true → o ≡ Offer.Recv (Some c)
received_is c (Offer.Recv (Some d)) is = ap (λ n. Offer.Recv (Some n)) (eqb-true d c is)
received_is c (Offer.Recv None) is = absurd (true≢false (sym is))
received_is c (Offer.Send d v) is = absurd (true≢false (sym is))

-- who receives stands in a span, so nobody does outside
module _ (waiting : List Waiter) (spans : Spans) (within : (c i : ℕ) → receives_at waiting c i ≡ true → IsInSpan spans c i) where
  outside : (c i : ℕ) → (IsInSpan spans c i → ⊥) → receives_at waiting c i ≡ false
  outside c i never = by (receives_at waiting c i) refl
    where
      by : (b : Bool) → receives_at waiting c i ≡ b → b ≡ false
      by false is = refl
      by true is = absurd (never (within c i is))

  pub in_spans : AreInSpans waiting spans
  in_spans = record {
    before = λ c i less. outside c i (λ span. omega (arith, less, span.from));
    behind = λ c i past. outside c i (λ span. omega (arith, past, span.to));
  }
