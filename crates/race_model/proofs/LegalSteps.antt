-- Legality, one event on.
use Rattle.std.proofs.Common.{◌≡◌, ℕ, ◌<◌, List, [], ◌∷◌, ◌++◌, Some, None, take, length, refl, sym, ap, ◌∙◌, subst}
use Rattle.std.proofs.Common.{inl, inr, arith, take_at, take-take, append_assoc, append-nil}
use Rattle.std.proofs.lemmas.{Option.slice_get_within, List.take-append-le}
use Rattle.race_records.specs.declared.event.Event.{Event}
use Rattle.race_model.{specs.Legal.{broken, IsLegal, IsIllegalAt}, proofs.Indexes.{slice_get-push, push_at}}
use Rattle.race_model.proofs.Indexes.{append_at_old, take_within, take_at_old}

module _ (caps : ℕ → ℕ) where
  -- no event breaks no rule
  pub legal_none : IsLegal caps []
  legal_none i e at = cc

  -- a legal list with one event more that breaks no rule is legal
  pub legal_push : (past : List Event) (e : Event) → IsLegal caps past → broken caps past e ≡ None → IsLegal caps (past ++ e ∷ [])
  legal_push past e legal kept i s at = elim (push_at past e i s at) [
    | inl old ↦
        subst (λ es. broken caps es s ≡ None)
        (sym (take-append-le i past (e ∷ []) (let less : i < length past = slice_get_within past i s old in omega arith))) (legal i s old)
    | inr new ↦
        let front : take i (past ++ e ∷ []) ≡ past = take_at past (e ∷ []) i (sym new.0) in
        subst (λ es. broken caps es s ≡ None) (sym front) (subst (λ s. broken caps past s ≡ None) new.1 kept)
  ]

  -- a front of a legal list is legal
  pub legal_take : (events : List Event) (n : ℕ) → IsLegal caps events → IsLegal caps (take n events)
  legal_take events n legal i e at =
      let less : i < n = take_within n events i e at in
      subst (λ es. broken caps es e ≡ None) (sym (take-take i n events (omega arith))) (legal i e (take_at_old n events i e at))

  -- behind a legal list an event that breaks a rule makes the list illegal, whatever follows
  pub illegal_push : (past more : List Event) (e : Event) (n : ℕ) → IsLegal caps past → broken caps past e ≡ Some n
      → IsIllegalAt caps ((past ++ e ∷ []) ++ more) (length past) n
  illegal_push past more e n legal is =
      let front : take (length past) ((past ++ e ∷ []) ++ more) ≡ past =
      ap (take (length past)) (append_assoc past (e ∷ []) more) ∙ take_at past (e ∷ [] ++ more) (length past) refl in (
        e,
        append_at_old (past ++ e ∷ []) more (length past) e (slice_get-push past e),
        subst (λ es. broken caps es e ≡ Some n) (sym front) is,
        subst (IsLegal caps) (sym front) legal,
      )

-- each event of rest, coming after past and those before it, breaks no rule
abbrev pub AllKept : (ℕ → ℕ) → List Event → List Event → Type 0
AllKept caps past [] = Unit {0}
AllKept caps past (e ∷ rest) = (broken caps past e ≡ None) × AllKept caps (past ++ e ∷ []) rest

-- a list is legal where each event in turn breaks no rule: on a list that is written out, by refl
pub legal_by : (caps : ℕ → ℕ) (past rest : List Event) → IsLegal caps past → AllKept caps past rest → IsLegal caps (past ++ rest)
legal_by caps past [] legal kept = subst (IsLegal caps) (sym (append-nil past)) legal
legal_by caps past (e ∷ rest) legal kept =
    subst (IsLegal caps) (append_assoc past (e ∷ []) rest) (legal_by caps (past ++ e ∷ []) rest (legal_push caps past e legal kept.0) kept.1)
