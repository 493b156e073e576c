-- Which events an access races with, read off the table.
use Rattle.std.proofs.Common.{◌≡◌, ◌⊎◌, ℕ, zero, suc, ◌<◌, ◌≤◌, ◌&&◌, ◌||◌, ◌↔◌, not, Bool, true, false, List, [], ◌∷◌}
use Rattle.std.proofs.Common.{◌++◌, length, take, Option, Some, None, if◌then◌else◌, refl, sym, ap, ◌∙◌, subst, inl}
use Rattle.std.proofs.{Common.{inr, arith, IsTrue, take_at}, lemmas.Bool.{cases_eq, or_cases, or_left, or_right}}
use Rattle.race_records.specs.declared.event.Event.{Event}
use Rattle.race_model.specs.{Events.{At, accesses, writes}, Known.SeenBy, Race.{IsAccessOf, IsWriteOf, Conflict}}
use Rattle.race_model.{specs.Race.IsRace, proofs.Indexes.{at_same, at_below, slice_get-push, append_at_old}}
use Rattle.race_model.proofs.BeforeSeen.{race_from_unseen, unseen_from_race}
use Rattle.race_edges.specs.{TableState.{TableState, sees}, Partners.{is_partner, greatest_below}}
use Rattle.race_edges.proofs.{IsTable.IsTable, TableSteps.table_seen}

-- what isn't true is false
false_from : (b : Bool) → (IsTrue b → ⊥) → b ≡ false
false_from false never = refl
false_from true never = absurd (never refl)

-- what an answer of greatest_below means
abbrev pub IsGreatest : (ℕ → Bool) → ℕ → Option ℕ → Type 0
IsGreatest passes n None = (k : ℕ) → k < n → IsTrue (passes k) → ⊥
IsGreatest passes n (Some i) = (i < n) × IsTrue (passes i) × ((k : ℕ) → k < n → IsTrue (passes k) → k ≤ i)

-- and it says it
pub greatest_is : (passes : ℕ → Bool) (n : ℕ) → IsGreatest passes n (greatest_below passes n)
greatest_is passes zero = λ k less is. absurd (omega arith)
greatest_is passes (suc n) = go (passes n) refl (greatest_below passes n) (greatest_is passes n)
  where
    below : (k : ℕ) → k < suc n → passes n ≡ false → IsTrue (passes k) → k < n
    below k less fails is = elim (cases_eq k n) [
      | inl same ↦ let passed : passes n ≡ true = subst (λ k. passes k ≡ true) same is in cc
      | inr differ ↦ omega arith
    ]

    go : (b : Bool) → passes n ≡ b → (o : Option ℕ) → IsGreatest passes n o → IsGreatest passes (suc n) (if b then Some n else o)
    go true is o before = (omega arith, is, λ k less passed. omega arith)
    go false fails None before = λ k less is. before k (below k less fails is) is
    go false fails (Some i) before = (omega (arith, before.0), before.1, λ k less is. before.2 k (below k less fails is) is)

-- what a test of three parts says
parts_from : (a b c : Bool) → IsTrue (a && (b && not c)) → IsTrue a × IsTrue b × (c ≡ false)
parts_from true true false is = (refl, refl, refl)
parts_from true true true is = cc
parts_from true false c is = cc
parts_from false b c is = cc

parts_to : (a b c : Bool) → IsTrue a → IsTrue b → c ≡ false → IsTrue (a && (b && not c))
parts_to true true false a b c = refl
parts_to true true true a b c = cc
parts_to true false d a b c = cc
parts_to false d f a b c = cc

module _ (caps : ℕ → ℕ) (table : TableState) (limit : ℕ) (past : List Event) (is_table : IsTable caps table limit past)
    (e : Event) (row : e.who < length table.rows) (x : ℕ) (access : IsTrue (accesses x e.op)) where
  -- the events before the next one
  front : take (length past) (past ++ e ∷ []) ≡ past
  front = take_at past (e ∷ []) (length past) refl

  -- an event of the list stands in the longer list too, and the next one behind it
  there : (i : ℕ) (a : Event) → At past i a → At (past ++ e ∷ []) i a
  there i a at = append_at_old past (e ∷ []) i a at

  here : At (past ++ e ∷ []) (length past) e
  here = slice_get-push past e

  -- what the table tells of an earlier event
  told : (i : ℕ) (a : Event) → At past i a → IsTrue (sees table.rows e.who i) ↔ SeenBy caps past i a.who e.who
  told i a at = table_seen caps table limit past is_table e.who i a row at

  -- the test at an index
  partner_is : (i : ℕ) (a : Event) → At past i a
      → is_partner table.rows past x e.who e.op i ≡ (accesses x a.op && ((writes x a.op || writes x e.op) && not (sees table.rows e.who i)))
  partner_is i a at = ap (λ o. elim o [ Some a ↦ accesses x a.op && ((writes x a.op || writes x e.op) && not (sees table.rows e.who i)) | None ↦ false ]) at

  -- a partner of the next event races with it
  pub race_from_partner : (i : ℕ) → i < length past → IsTrue (is_partner table.rows past x e.who e.op i) → IsRace caps (past ++ e ∷ []) x i (length past)
  race_from_partner i less is = go (at_below past i less)
    where
      go : ((a : Event) × At past i a) → IsRace caps (past ++ e ∷ []) x i (length past)
      go (a, at) = race_from_unseen caps (past ++ e ∷ []) x i (length past) a e less (there i a at) here conflict unseen
        where
          parts : IsTrue (accesses x a.op) × IsTrue (writes x a.op || writes x e.op) × (sees table.rows e.who i ≡ false)
          parts = parts_from (accesses x a.op) (writes x a.op || writes x e.op) (sees table.rows e.who i) (sym (partner_is i a at) ∙ is)

          conflict : Conflict (past ++ e ∷ []) x i (length past)
          conflict = (
            (λ same. absurd (omega (arith, less, same))),
            (a, there i a at, parts.0),
            (e, here, access),
            elim (or_cases (writes x a.op) (writes x e.op) parts.1) [ inl first ↦ inl (a, there i a at, first) | inr second ↦ inr (e, here, second) ],
          )

          unseen : SeenBy caps (take (length past) (past ++ e ∷ [])) i a.who e.who → ⊥
          unseen seen =
              let known : sees table.rows e.who i ≡ true = (told i a at).1 (subst (λ es. SeenBy caps es i a.who e.who) front seen) in
              let unknown = parts.2 in
              cc

  -- and whatever races with it is a partner
  pub partner_from_race : (i : ℕ) → i < length past → IsRace caps (past ++ e ∷ []) x i (length past) → IsTrue (is_partner table.rows past x e.who e.op i)
  partner_from_race i less race = go (at_below past i less)
    where
      go : ((a : Event) × At past i a) → IsTrue (is_partner table.rows past x e.who e.op i)
      go (a, at) = partner_is i a at ∙ parts_to (accesses x a.op) (writes x a.op || writes x e.op)
          (sees table.rows e.who i) (first race.conflict.1) (write race.conflict.3) unseen
        where
          first : IsAccessOf (past ++ e ∷ []) x i → IsTrue (accesses x a.op)
          first (s, ats, is) = subst (λ (s : Event). IsTrue (accesses x s.op)) (at_same (past ++ e ∷ []) i s a ats (there i a at)) is

          write : IsWriteOf (past ++ e ∷ []) x i ⊎ IsWriteOf (past ++ e ∷ []) x (length past) → IsTrue (writes x a.op || writes x e.op)
          write (inl (s, ats, is)) = or_left (writes x a.op) (writes x e.op)
              (subst (λ (s : Event). IsTrue (writes x s.op)) (at_same (past ++ e ∷ []) i s a ats (there i a at)) is)
          write (inr (s, ats, is)) = or_right (writes x a.op) (writes x e.op)
              (subst (λ (s : Event). IsTrue (writes x s.op)) (at_same (past ++ e ∷ []) (length past) s e ats here) is)

          unseen : sees table.rows e.who i ≡ false
          unseen = false_from (sees table.rows e.who i) (λ known.
              unseen_from_race caps (past ++ e ∷ []) x i (length past) a e (there i a at) here race
              (subst (λ es. SeenBy caps es i a.who e.who) (sym front) ((told i a at).0 known)))
