-- Lists that are the same but for the order of independent neighbours.
use Rattle.std.proofs.Common.{◌≡◌, ◌⊎◌, ℕ, Bool, true, false, List, [], ◌∷◌, ◌++◌, Some, None, length, slice_get, take}
use Rattle.std.proofs.{Common.{refl, sym, ap, ◌∙◌, subst, inl, inr, append_assoc, take_at}, lemmas.Bool.{false_from_ne_true}}
use Rattle.race_records.specs.declared.event.Event.{Event}
use Rattle.race_model.specs.{Events.{takes_part}, Legal.{broken, IsLegal}, Predict.execution_of}
use Rattle.race_model.proofs.LegalSteps.{AllKept, legal_take, legal_by}
use Rattle.race_exchange.specs.{Independent.are_independent, Exchange.{IsExchanged, SameButForOrder, same, exchanged}}
use Rattle.race_exchange.proofs.{Apart.{apart, independent_other_way}, Exchanged.filter_exchanged}
use Rattle.race_exchange.proofs.{ExchangedSays.exchanged_says_the_same, OtherWay.legal_other_way}

-- the places are changed back
pub exchanged_back : (one other : List Event) → IsExchanged one other → IsExchanged other one
exchanged_back one other is = record {
  before = is.before;
  a = is.b;
  b = is.a;
  next = is.next;
  after = is.after;
  independent = independent_other_way is.a is.b is.independent;
  one_is = is.other_is;
  other_is = is.one_is;
}

-- one exchange
pub by_one : {one other : List Event} → IsExchanged one other → SameButForOrder one other
by_one is = exchanged is same

-- one order and then another
pub then_order : {one other last : List Event} → SameButForOrder one other → SameButForOrder other last → SameButForOrder one last
then_order same rest = rest
then_order (exchanged is more) rest = exchanged is (then_order more rest)

-- and the way back
pub order_back : {one other : List Event} → SameButForOrder one other → SameButForOrder other one
order_back same = same
order_back (exchanged {one} {other} is more) = then_order (order_back more) (by_one (exchanged_back one other is))

-- what exchanges keep is kept in another order
pub order_keeps : (P : List Event → Type 0) → ((one other : List Event) → IsExchanged one other → P one → P other)
    → {one other : List Event} → SameButForOrder one other → P one → P other
order_keeps P keep same holds = holds
order_keeps P keep (exchanged {one} {other} is more) holds = order_keeps P keep more (keep one other is holds)

-- the element behind a front, and the front before it
at_middle : {X : Type 0} (past : List X) (e : X) (rest : List X) → slice_get (past ++ e ∷ rest) (length past) ≡ Some e
at_middle [] e rest = refl
at_middle (x ∷ past) e rest = at_middle past e rest

front_is : {X : Type 0} (past rest : List X) → take (length past) (past ++ rest) ≡ past
front_is past rest = take_at past rest (length past) refl

module _ (caps : ℕ → ℕ) where
  -- in a legal list each event in turn breaks no rule
  kept_from : (past rest : List Event) → IsLegal caps (past ++ rest) → AllKept caps past rest
  kept_from past [] legal = tt
  kept_from past (e ∷ rest) legal = (
    subst (λ es. broken caps es e ≡ None) (front_is past (e ∷ rest)) (legal (length past) e (at_middle past e rest)),
    kept_from (past ++ e ∷ []) rest (subst (IsLegal caps) (sym (append_assoc past (e ∷ []) rest)) legal),
  )

  -- what comes after the two is judged the same
  kept_on : (before : List Event) (a b : Event) → are_independent a b ≡ true → (more rest : List Event)
      → AllKept caps (before ++ a ∷ b ∷ more) rest → AllKept caps (before ++ b ∷ a ∷ more) rest
  kept_on before a b is more [] kept = tt
  kept_on before a b is more (e ∷ rest) kept = (
    sym ((exchanged_says_the_same before a b more is).broken caps e) ∙ kept.0,
    subst (λ es. AllKept caps es rest) (sym (append_assoc before (b ∷ a ∷ more) (e ∷ [])))
        (kept_on before a b is (more ++ e ∷ []) rest (subst (λ es. AllKept caps es rest) (append_assoc before (a ∷ b ∷ more) (e ∷ [])) kept.1)),
  )

  exchange_legal : (before : List Event) (a b : Event) (rest : List Event) → are_independent a b ≡ true → IsLegal caps (before ++ a ∷ b ∷ rest)
      → IsLegal caps (before ++ b ∷ a ∷ rest)
  exchange_legal before a b rest is legal =
      let front : IsLegal caps before =
      subst (IsLegal caps) (front_is before (a ∷ b ∷ rest)) (legal_take caps (before ++ a ∷ b ∷ rest) (length before) legal) in
      let kept : AllKept caps before (a ∷ b ∷ rest) = kept_from before (a ∷ b ∷ rest) legal in
      let two = legal_other_way caps before a b front is kept.0 kept.1.0 in
      legal_by caps before (b ∷ a ∷ rest) front (
        two.0,
        (
          two.1,
          subst (λ es. AllKept caps es rest) (sym (append_assoc before (b ∷ []) (a ∷ [])))
              (kept_on before a b is [] rest (subst (λ es. AllKept caps es rest) (append_assoc before (a ∷ []) (b ∷ [])) kept.1.1)),
        ),
      )

  pub exchanged_legal : (one other : List Event) → IsExchanged one other → IsLegal caps one → IsLegal caps other
  exchanged_legal one other is legal =
      subst (IsLegal caps) (sym is.other_is) (exchange_legal is.before is.a is.b (is.next ∷ is.after) is.independent (subst (IsLegal caps) is.one_is legal))

  -- a legal list is legal in every other order
  pub other_orders_legal : (events other : List Event) → SameButForOrder events other → IsLegal caps events → IsLegal caps other
  other_orders_legal events other order legal = order_keeps (IsLegal caps) exchanged_legal order legal

-- each goroutine takes part in one of the two at most, and so does the same
pub exchanged_does_the_same : (g : ℕ) (one other : List Event) → IsExchanged one other → execution_of g one ≡ execution_of g other
exchanged_does_the_same g one other is = ap (execution_of g) is.one_is
    ∙ filter_exchanged is.before is.a is.b (is.next ∷ is.after) (takes_part g) (by (takes_part g is.a) refl)
    ∙ sym (ap (execution_of g) is.other_is)
  where
    by : (part : Bool) → takes_part g is.a ≡ part → (takes_part g is.a ≡ false) ⊎ (takes_part g is.b ≡ false)
    by false out = inl out
    by true in_a = inr (false_from_ne_true (takes_part g is.b) ((apart is.a is.b is.independent).no_goroutine g in_a))

pub other_orders_do_the_same : (events other : List Event) (g : ℕ) → SameButForOrder events other → execution_of g events ≡ execution_of g other
other_orders_do_the_same events other g order =
    order_keeps (λ es. execution_of g events ≡ execution_of g es) (λ one other is so_far. so_far ∙ exchanged_does_the_same g one other is) order refl
