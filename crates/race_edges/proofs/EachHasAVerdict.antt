-- Every trace has a verdict: an event breaks a rule, or tables read off the races.
use Rattle.std.proofs.Common.{◌≡◌, ℕ, zero, suc, ◌<◌, ◌≤◌, ◌==◌, Bool, true, false, List, [], ◌∷◌, length, map}
use Rattle.std.proofs.Common.{take, Option, Some, None, refl, ap, ◌∙◌}
use Rattle.std.proofs.{Common.{subst, inl, inr, ◌⊎◌, arith, take-take}, lemmas.Bool.Decides.nat_tests}
use Rattle.std.proofs.lemmas.{Option.slice_get_within}
use Rattle.race_records.specs.{declared.{event.{Event.Event}}}
use Rattle.race_records.specs.Events.{TraceState, IsTrace}
use Rattle.race_model.specs.{Events.At, Legal.{broken, IsLegal, IsIllegalAt}, Verdict.{Verdict, Illegal, Clean, Races}}
use Rattle.race_model.proofs.Indexes.{at_below, at_same, take_within, take_at_old}
use Rattle.race_verdict.specs.{declared.races.Race.Race, Races.{race_of, races_of}}
use Rattle.race_verdict.{specs.{Races.AreRaces, Traces.{capacities, HasVerdict}}}
use Rattle.race_verdict.proofs.RaceLists.{free_from_none, listed_some}
use Rattle.race_edges.specs.{TableState.{TableState}}
use Rattle.race_edges.proofs.JudgeSteps.{AreTables, tables_none, tables_next, races_listed}

module _ (caps : ℕ → ℕ) (events : List Event) where
  -- the events below n break no rule
  abbrev IsFine : ℕ → Type 0
  IsFine n = (i : ℕ) (e : Event) → i < n → At events i e → broken caps (take i events) e ≡ None

  -- a first event breaks a rule
  abbrev HasBroken : Type 0
  HasBroken = (i : ℕ) × (rule : ℕ) × IsIllegalAt caps events i rule

  fine_front : (n : ℕ) → IsFine n → IsLegal caps (take n events)
  fine_front n fine i e at =
      let less = take_within n events i e at in
      ap (λ past. broken caps past e) (take-take i n events (omega (arith, less))) ∙ fine i e less (take_at_old n events i e at)

  -- no event below n breaks a rule, or one is the first that does
  searched : (n : ℕ) → n ≤ length events → IsFine n ⊎ HasBroken
  searched zero less = inl (λ i e below at. absurd (omega (arith, below)))
  searched (suc n) less = by (searched n (omega (arith, less)))
    where
      here : (e : Event) × At events n e
      here = at_below events n (omega (arith, less))

      next : IsFine n → (o : Option ℕ) → broken caps (take n events) here.0 ≡ o → IsFine (suc n) ⊎ HasBroken
      next fine (Some rule) is = inr (n, rule, (here.0, here.1, is, fine_front n fine))
      next fine None is = inl (λ i e below at. last i e (i == n) refl below at)
        where
          last : (i : ℕ) (e : Event) (b : Bool) → (i == n) ≡ b → i < suc n → At events i e → broken caps (take i events) e ≡ None
          last i e true same below at =
              let is_n : i ≡ n = grind (arith, nat_tests) in
              let is_e : e ≡ here.0 = at_same events n e here.0 (subst (λ k. At events k e) is_n at) here.1 in
              (λ j. broken caps (take (is_n j) events) (is_e j)) ∙ is
          last i e false other below at =
              let less : i < n = grind (arith, nat_tests) in
              fine i e less at

      by : IsFine n ⊎ HasBroken → IsFine (suc n) ⊎ HasBroken
      by (inr found) = inr found
      by (inl fine) = next fine (broken caps (take n events) here.0) refl

at_next : {trace : TraceState} {n m : ℕ} {table : TableState} {found : List (Option Race)} → AreTables trace n table found → n ≡ m
    → AreTables trace m table found
at_next {trace} {n} {m} {table} {found} are same = subst (λ m. AreTables trace m table found) same are

module _ (trace : TraceState) (holds : IsTrace trace) where
  -- tables that are right for the first n events
  tables : (n : ℕ) → n ≤ length trace.events → (table : TableState) × (found : List (Option Race)) × AreTables trace n table found
  tables zero less = (_, _, tables_none trace)
  tables (suc n) less =
      let (table, found, are) = tables n (omega (arith, less)) in
      let (e, here) = at_below trace.events n (omega (arith, less)) in
      (_, _, at_next (tables_next trace n e table found holds here are) (omega arith))

  -- the races of the trace
  listed : (races : List Race) × AreRaces (capacities trace) trace.events races
  listed =
      let (table, found, are) = tables (length trace.events) (omega arith) in
      (races_of found, races_listed trace (length trace.events) table found holds are (omega arith))

  -- the verdict on it
  pub judged : (v : Verdict) × HasVerdict trace v
  judged = by (searched (capacities trace) trace.events (length trace.events) (omega arith))
    where
      legal : IsFine (capacities trace) trace.events (length trace.events) → IsLegal (capacities trace) trace.events
      legal fine i e at = fine i e (slice_get_within trace.events i e at) at

      races : IsLegal (capacities trace) trace.events → (rs : List Race) → AreRaces (capacities trace) trace.events rs → (v : Verdict) × HasVerdict trace v
      races is_legal [] are = (Clean, (is_legal, free_from_none (capacities trace) trace.events [] are refl))
      races is_legal (r ∷ rs) are = (Races (map race_of (r ∷ rs)), (is_legal, listed_some (r ∷ rs) (λ e. cc), are))

      by : IsFine (capacities trace) trace.events (length trace.events) ⊎ HasBroken (capacities trace) trace.events → (v : Verdict) × HasVerdict trace v
      by (inr (i, rule, is)) = (Illegal i rule, is)
      by (inl fine) = races (legal fine) listed.0 listed.1
