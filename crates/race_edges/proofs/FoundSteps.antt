-- What is noted of each variable is right, one event on.
use Rattle.std.proofs.Common.{◌≡◌, ◌⊎◌, ℕ, ◌+◌, ◌<◌, ◌≤◌, Bool, true, false, List, [], ◌∷◌, ◌++◌, length, replicate}
use Rattle.std.proofs.Common.{Option, Some, None, IfSome, is_some, get_or, set, if◌then◌else◌, refl, sym, ◌∙◌, subst}
use Rattle.std.proofs.Common.{inl, inr, arith, IsTrue, eqb-true, eq-eqb, length-append}
use Rattle.std.proofs.lemmas.{Bool.{cases_eq, cases_lt}, List.{get_or-set_same, get_or-set_other, get_or-replicate}}
use Rattle.std.{proofs.lemmas.List.{length-set, length-replicate}, specs.Option.option_map}
use Rattle.race_records.specs.declared.event.Event.{Event}
use Rattle.race_model.specs.{Events.{gives, accesses}, Race.{IsAccessOf, IsRace}}
use Rattle.race_model.proofs.{Indexes.{at_same, slice_get-push}, RaceSteps.{race_turned, access_within, race_old}}
use Rattle.race_model.proofs.RaceSteps.{reported_grow}
use Rattle.race_verdict.specs.{declared.races.Race.Race, Accesses.accessed, Races.{IsFound, AreFound}}
use Rattle.race_verdict.proofs.RangeLemmas.{accesses_is}
use Rattle.race_edges.specs.{TableState.TableState, Partners.{is_partner, greatest_below, race_at, HasPlace, noted}}
use Rattle.race_edges.{specs.Partners.found_after, proofs.{IsTable.IsTable, PartnerLemmas.{IsGreatest, greatest_is}}}
use Rattle.race_edges.proofs.PartnerLemmas.{race_from_partner, partner_from_race}

-- before the first event there is no race
pub found_none : (caps : ℕ → ℕ) (vars : ℕ) → AreFound caps [] (replicate vars None)
found_none caps vars x less = subst (IsFound caps [] x)
    (sym (get_or-replicate vars x None None (omega (arith, less, length-replicate vars (let o : Option Race = None in o))))) (λ i j race. go i race.conflict.1)
  where
    go : (i : ℕ) → IsAccessOf [] x i → ⊥
    go i (e, at, is) = cc

module _ (caps : ℕ → ℕ) (past : List Event) (e : Event) (x : ℕ) where
  -- an access at the end of the longer list is the next event
  last_access : IsAccessOf (past ++ e ∷ []) x (length past) → IsTrue (accesses x e.op)
  last_access (s, at, is) = subst (λ (s : Event). IsTrue (accesses x s.op)) (at_same (past ++ e ∷ []) (length past) s e at (slice_get-push past e)) is

  -- a race of the longer list is an old one, or one of the next event, whichever is named first
  race_cases : (i j : ℕ) → IsRace caps (past ++ e ∷ []) x i j
      → IsRace caps past x i j ⊎ (IsTrue (accesses x e.op) × ((k : ℕ) × (k < length past) × IsRace caps (past ++ e ∷ []) x k (length past)))
  race_cases i j race = go (cases_lt i (length past)) (cases_lt j (length past))
    where
      within_i : i < length past + 1
      within_i = let within : i < length (past ++ e ∷ []) = access_within caps (past ++ e ∷ []) [] x i race.conflict.1 in
          omega (arith, within, length-append past (e ∷ []))

      within_j : j < length past + 1
      within_j = let within : j < length (past ++ e ∷ []) = access_within caps (past ++ e ∷ []) [] x j race.conflict.2 in
          omega (arith, within, length-append past (e ∷ []))

      go : (i < length past) ⊎ (length past ≤ i) → (j < length past) ⊎ (length past ≤ j)
          → IsRace caps past x i j ⊎ (IsTrue (accesses x e.op) × ((k : ℕ) × (k < length past) × IsRace caps (past ++ e ∷ []) x k (length past)))
      go (inl a) (inl b) = inl (race_old caps past (e ∷ []) x i j a b race)
      go (inl a) (inr b) =
          let last : j ≡ length past = omega (arith, within_j, b) in
          inr (last_access (subst (IsAccessOf (past ++ e ∷ []) x) last race.conflict.2), (i, a, subst (IsRace caps (past ++ e ∷ []) x i) last race))
      go (inr a) (inl b) =
          let last : i ≡ length past = omega (arith, within_i, a) in
          inr (
            last_access (subst (IsAccessOf (past ++ e ∷ []) x) last race.conflict.1),
            (j, b, subst (IsRace caps (past ++ e ∷ []) x j) last (race_turned caps (past ++ e ∷ []) x i j race)),
          )
      go (inr a) (inr b) = absurd (race.conflict.0 (omega (arith, within_i, within_j, a, b)))

  -- what is noted stays right where the next event is no access of x
  pub found_kept : (IsTrue (accesses x e.op) → ⊥) → (o : Option Race) → IsFound caps past x o → IsFound caps (past ++ e ∷ []) x o
  found_kept other None none = λ i j race. elim (race_cases i j race) [ inl old ↦ none i j old | inr new ↦ other new.0 ]
  found_kept other (Some r) (var, reported) = (var, reported_grow caps past (e ∷ []) x r.first r.second reported)

  -- a race that is noted stays right
  pub race_kept : (o : Option Race) → is_some o ≡ true → IsFound caps past x o → IsFound caps (past ++ e ∷ []) x o
  race_kept None some none = cc
  race_kept (Some r) some (var, reported) = (var, reported_grow caps past (e ∷ []) x r.first r.second reported)

  -- the race of the next event is right where there was none before
  pub race_new : (table : TableState) (limit : ℕ) → IsTable caps table limit past → e.who < length table.rows → IsTrue (accesses x e.op)
      → ((i j : ℕ) → ¬ IsRace caps past x i j)
      → IsFound caps (past ++ e ∷ []) x (race_at table.rows past (length past) e x)
  race_new table limit is_table row access none =
      go (greatest_below (is_partner table.rows past x e.who e.op) (length past)) (greatest_is (is_partner table.rows past x e.who e.op) (length past))
    where
      go : (o : Option ℕ) → IsGreatest (is_partner table.rows past x e.who e.op) (length past) o
          → IsFound caps (past ++ e ∷ []) x (option_map (λ i. record { var = x; first = i; second = length past }) o)
      go None alone = λ i j race. elim (race_cases i j race) [
        | inl old ↦ none i j old
        | inr new ↦ alone new.1.0 new.1.1 (partner_from_race caps table limit past is_table e row x access new.1.0 new.1.1 new.1.2)
      ]
      go (Some i) (less, is, greatest) = (
        refl,
        record {
          race = race_from_partner caps table limit past is_table e row x access i less is;
          in_order = less;
          least = λ k m under race. elim (cases_lt m (length past)) [
            | inl early ↦ absurd (none k m (race_old caps past (e ∷ []) x k m (omega arith) early race))
            | inr late ↦ late
          ];
          greatest = λ k under race. greatest k under (partner_from_race caps table limit past is_table e row x access k under race);
        },
      )

module _ (caps : ℕ → ℕ) (past : List Event) (e : Event) (table : TableState) (limit : ℕ) (is_table : IsTable caps table limit past)
    (row : e.who < length table.rows) (found : List (Option Race)) (right : AreFound caps past found) where
  -- what is noted of an access's variable is right behind it
  noted_right : (y : ℕ) → y < length found → ((x : ℕ) → IsTrue (accesses x e.op) → x ≡ y) → IsTrue (accesses y e.op)
      → AreFound caps (past ++ e ∷ []) (noted table.rows past (length past) e y found)
  noted_right y below only access = go (is_some (get_or found y None)) refl
    where
      go : (b : Bool) → is_some (get_or found y None) ≡ b
          → AreFound caps (past ++ e ∷ []) (if b then found else set found y (race_at table.rows past (length past) e y))
      go true some x less = elim (cases_eq x y) [
        | inl same ↦ race_kept caps past e x (get_or found x None) (subst (λ y. is_some (get_or found y None) ≡ true) (sym same) some) (right x less)
        | inr differ ↦ found_kept caps past e x (λ is. differ (only x is)) (get_or found x None) (right x less)
      ]
      go false none x less = elim (cases_eq x y) [
        | inl same ↦ subst (λ x. IsFound caps (past ++ e ∷ []) x (get_or (set found y (race_at table.rows past (length past) e y)) x None)) (sym same) here
        | inr differ ↦
            let old : x < length found = omega (arith, less, length-set found y (race_at table.rows past (length past) e y)) in
            subst (IsFound caps (past ++ e ∷ []) x) (sym (get_or-set_other found y x (race_at table.rows past (length past) e y) None differ))
            (found_kept caps past e x (λ is. differ (only x is)) (get_or found x None) (right x old))
      ]
        where
          free : (o : Option Race) → is_some o ≡ false → IsFound caps past y o → (i j : ℕ) → ¬ IsRace caps past y i j
          free None none is = is
          free (Some r) none is = cc

          here : IsFound caps (past ++ e ∷ []) y (get_or (set found y (race_at table.rows past (length past) e y)) y None)
          here =
              subst (IsFound caps (past ++ e ∷ []) y) (sym (get_or-set_same found y (race_at table.rows past (length past) e y) None below))
              (race_new caps past e y table limit is_table row access (free (get_or found y None) none (right y below)))

  -- what is noted of all variables is right behind the next event
  pub found_step : HasPlace found e.op → AreFound caps (past ++ e ∷ []) (found_after table.rows past (length past) e found)
  found_step place = by (accessed e.op) (accesses_is e.op) place
    where
      by : (a : Option ℕ) → ((x : ℕ) → accesses x e.op ≡ gives a x) → IfSome a (λ x. x < length found)
          → AreFound caps (past ++ e ∷ []) (elim a [ Some x ↦ noted table.rows past (length past) e x found | None ↦ found ])
      by None is below = λ x less. found_kept caps past e x (λ access. let none : false ≡ true = sym (is x) ∙ access in cc) (get_or found x None) (right x less)
      by (Some y) is below = noted_right y below (λ x access. sym (eqb-true y x (sym (is x) ∙ access))) (is y ∙ eq-eqb y y refl)
