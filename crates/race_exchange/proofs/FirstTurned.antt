-- The first independent neighbours of a list that are turned.
use Rattle.std.proofs.Common.{◌≡◌, ℕ, ◌+◌, ◌-◌, ◌<◌, ◌≤◌, Bool, true, false, List, Some, length, get_or, take, slice_get, sym, ap, ◌∙◌}
use Rattle.std.proofs.{Common.{subst, inl, inr, arith}, lemmas.{Bool.{both_ways, cases_lt}, Option.{slice_get_within, slice_get-get_or}}}
use Rattle.race_records.specs.declared.event.Event.{Event}
use Rattle.race_model.specs.Events.{At}
use Rattle.race_model.proofs.Indexes.{at_same, take_at_old, take_within, slice_get-take, at_below}
use Rattle.race_exchange.specs.{Independent.are_turned, Exchange.{IsInOrder, IsFirstTurned}}
use Rattle.race_exchange.proofs.InOrder.{OrderBy}

-- no two neighbours after which something comes among the first n pass the test
abbrev pub NoneBefore : (Event → Event → Bool) → List Event → ℕ → Type 0
NoneBefore test events n = (i : ℕ) (a b : Event) → i + 2 < n → At events i a → At events (i + 1) b → test a b ≡ false

module _ (test : Event → Event → Bool) (events : List Event) where
  -- two events are too few
  pub none_of_two : NoneBefore test events 2
  none_of_two i a b few ata atb = absurd (omega arith)

  -- one event more, where the two before it don't pass
  pub none_more : (n i : ℕ) (a b : Event) → n ≡ i + 2 → At events i a → At events (i + 1) b → test a b ≡ false → NoneBefore test events n → NoneBefore test events (n + 1)
  none_more n i a b two ata atb right none k c d less atc atd = elim (cases_lt (k + 2) n) [
    | inl below ↦ none k c d below atc atd
    | inr last ↦
        let same : i ≡ k = omega arith in
        let first : a ≡ c = at_same events k a c (ap (λ n. slice_get events n) (sym same) ∙ ata) atc in
        let second : b ≡ d = at_same events (k + 1) b d (ap (λ n. slice_get events (n + 1)) (sym same) ∙ atb) atd in
        (λ j. test (sym first j) (sym second j)) ∙ right
  ]

  -- all events
  pub none_of_all : (n : ℕ) → length events ≤ n → NoneBefore test events n → OrderBy test events
  none_of_all n all none i a b next ata atb atn =
      let within : i + 2 < length events = slice_get_within events (i + 2) next atn in none i a b (omega (arith, within)) ata atb

  -- and those of a front
  pub none_of_front : (n : ℕ) → NoneBefore test events n → OrderBy test (take n events)
  none_of_front n none i a b next ata atb atn =
      none i a b (take_within n events (i + 2) next atn) (take_at_old n events i a ata) (take_at_old n events (i + 1) b atb)

-- the front that ends with the two is that of every list which begins so and goes on: it is not in order either
pub turned_front : (events others : List Event) (n : ℕ) → IsFirstTurned events n → take n others ≡ take n events → n < length others → IsInOrder others → ⊥
turned_front events others n is same more order =
    let count = is.last_two in
    let next = at_below others (is.before + 2) (omega (arith, count)) in
    both_ways (are_turned is.a is.b) (order is.before is.a is.b next.0 (there is.before is.a (omega (arith, count)) is.at_a)
    (there (is.before + 1) is.b (omega (arith, count)) is.at_b) next.1) is.turned
  where
    there : (i : ℕ) (e : Event) → i < n → At events i e → At others i e
    there i e less at = sym (slice_get-take n others i less) ∙ ap (λ es. slice_get es i) same ∙ slice_get-take n events i less ∙ at

-- an element that was read
read_at : (events : List Event) (i : ℕ) (e : Event) → i < length events → e ≡ get_or events i e → At events i e
read_at events i e less is = slice_get-get_or events i e less ∙ ap Some (sym is)

-- the two events before index n were read
pub record AreRead (events : List Event) (n : ℕ) (a b : Event) : Type 0 where
  pub two : 2 ≤ n
  pub within : n < length events
  pub first : a ≡ get_or events (n - 2) a
  pub second : b ≡ get_or events (n - 1) b

read_first : (events : List Event) (n : ℕ) (a b : Event) → AreRead events n a b → At events (n - 2) a
read_first events n a b is = let within = is.within in read_at events (n - 2) a (omega (arith, within)) is.first

read_second : (events : List Event) (n : ℕ) (a b : Event) → AreRead events n a b → At events (n - 2 + 1) b
read_second events n a b is =
    let within = is.within in
    let two = is.two in
    let next : n - 1 ≡ n - 2 + 1 = omega (arith, two) in
    subst (λ i. At events i b) next (read_at events (n - 1) b (omega (arith, within, two)) is.second)

-- they aren't turned
pub none_on : (events : List Event) (n : ℕ) (a b : Event) → AreRead events n a b → are_turned a b ≡ false → NoneBefore are_turned events n
    → NoneBefore are_turned events (n + 1)
none_on events n a b is right none =
    let two = is.two in
    none_more are_turned events n (n - 2) a b (omega (arith, two)) (read_first events n a b is) (read_second events n a b is) right none

-- they are
pub first_turned : (events : List Event) (n : ℕ) (a b : Event) → AreRead events n a b → are_turned a b ≡ true → NoneBefore are_turned events n
    → IsFirstTurned events n
first_turned events n a b is turned none = record {
  before = n - 2;
  a = a;
  b = b;
  last_two = let two = is.two in omega (arith, two);
  at_a = read_first events n a b is;
  at_b = read_second events n a b is;
  turned = turned;
  more = is.within;
  first = none_of_front are_turned events n none;
}
