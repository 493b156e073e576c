-- What an exchange of a small list can be.
use Rattle.std.proofs.Common.{◌≡◌, suc, ◌+◌, ◌≤◌, true, List, [], ◌∷◌, ◌++◌, length, sym, ap, ◌∙◌, arith, length-append}
use Rattle.race_records.specs.declared.event.Event.{Event}
use Rattle.race_exchange.specs.{Independent.are_independent, Exchange.IsExchanged}

-- three events at least
pub three_at_least : (one other : List Event) → IsExchanged one other → 3 ≤ length one
three_at_least one other is =
    let whole : length one ≡ length is.before + length (is.a ∷ is.b ∷ is.next ∷ is.after) =
    ap length is.one_is ∙ length-append is.before (is.a ∷ is.b ∷ is.next ∷ is.after) in
    omega (arith, whole)

-- of three events the first two
pub first_two : (a b last : Event) (other : List Event) → IsExchanged (a ∷ b ∷ last ∷ []) other → are_independent a b ≡ true
first_two a b last other is = by is.before is.one_is
  where
    by : (before : List Event) → a ∷ b ∷ last ∷ [] ≡ before ++ is.a ∷ is.b ∷ is.next ∷ is.after → are_independent a b ≡ true
    by [] whole =
        let first : is.a ≡ a = cc in
        let second : is.b ≡ b = cc in
        (λ i. are_independent (sym first i) (sym second i)) ∙ is.independent
    by (e ∷ before) whole =
        let sum : 3 ≡ suc (length (before ++ is.a ∷ is.b ∷ is.next ∷ is.after)) = ap length whole in
        let more = length-append before (is.a ∷ is.b ∷ is.next ∷ is.after) in
        absurd (omega (arith, sum, more))

-- where the first event changes, the first two have changed places
pub first_changes : (a b c : Event) (rest more : List Event) → IsExchanged (a ∷ b ∷ rest) (c ∷ more) → (a ≡ c → ⊥) → b ≡ c
first_changes a b c rest more is other = by is.before is.one_is is.other_is
  where
    by : (before : List Event) → a ∷ b ∷ rest ≡ before ++ is.a ∷ is.b ∷ is.next ∷ is.after → c ∷ more ≡ before ++ is.b ∷ is.a ∷ is.next ∷ is.after → b ≡ c
    by [] whole turned = cc
    by (e ∷ before) whole turned = let same : a ≡ c = cc in absurd (other same)
