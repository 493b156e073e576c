-- The races of a run are noted one after another.
use Rattle.std.proofs.Common.{ℕ, false, ◌≡◌, ◌≤◌, ◌<◌, ◌+◌, ◌++◌, ◌^◌, List, [], ◌∷◌, length, take, map, Some, All, refl, sym, ap, ◌∙◌, arith, subst}
use Rattle.std.{proofs.lemmas.{Option.slice_get-map, List.{take-map, take_all, map-append, Elements.All-weaker}}, specs.Prelude.{slice_get, option_map}}
use Rattle.race_legal.proofs.Fronts.{take_next}
use Rattle.race_model.specs.Verdict.{Races}
use Rattle.race_hub.specs.Recording.{RecordingState}
use Rattle.race_verdict.specs.{Races.race_of, Traces.{HasVerdict, capacities}}
use Rattle.race_explore.specs.declared.{walk.TheConstants.MAX_RUNS, explored.{Explored.Explored, RacyVariable.RacyVariable}}
use Rattle.race_explore.specs.Looked.{Looked, HasSameCounts, AreAccesses, trace_of}
use Rattle.race_explore.specs.Told.{is_racy_on, AreRacy, CountsRace}
use Rattle.race_explore.proofs.RacyLemmas.{AreNoted, noted_first, noted_all, noted_more, has_race, not_yet, racy_bounded}
use Rattle.race_verdict.specs.declared.races.Race as tool

same_counts_on : {A : Type 0} (a b c : Explored A) → HasSameCounts a b → HasSameCounts b c → HasSameCounts a c
same_counts_on a b c x y = record {
  runs = y.runs ∙ x.runs;
  made = y.made ∙ x.made;
  clean = y.clean ∙ x.clean;
  races = y.races ∙ x.races;
  deadlocks = y.deadlocks ∙ x.deadlocks;
  faults = y.faults ∙ x.faults;
  whole = y.whole ∙ x.whole;
}

-- a run without races changes nothing that is told
pub no_race_told : {A : Type 0} (seen : List Looked) (looked : Looked) (racy : List (RacyVariable A)) → ((x : ℕ) → is_racy_on x looked.verdict ≡ false)
    → AreRacy seen racy → AreRacy (seen ++ looked ∷ []) racy
no_race_told seen looked racy none are = noted_all seen looked racy (noted_first seen looked looked.verdict racy none are)

module _ {A : Type 0} (before : Explored A) (picks : List ℕ) (r : RecordingState) (races : List tool.Race) where
  abbrev pub racy_run : Looked
  racy_run = record { picks = picks; run = r; verdict = Races (map race_of races) }

  -- so many of them are
  pub record IsNoting (n : ℕ) (now : Explored A) : Type 0 where
    pub same : HasSameCounts before now
    pub bad : now.bad.items ≡ before.bad.items
    pub few : All (λ v. v.runs ≤ before.runs + n) now.racy.items
    pub noted : (seen : List Looked) → AreRacy seen before.racy.items → AreNoted seen racy_run (Races (map race_of (take n races))) now.racy.items

  pub noting_begins : All (λ v. v.runs ≤ before.runs) before.racy.items → IsNoting 0 before
  noting_begins few = record {
    same = record { runs = refl; made = refl; clean = refl; races = refl; deadlocks = refl; faults = refl; whole = refl };
    bad = refl;
    few = All-weaker (λ (v : RacyVariable A). v.runs ≤ before.runs) (λ (v : RacyVariable A). v.runs ≤ before.runs + 0) (λ v below. omega (arith, below)) before.racy.items
        few;
    noted = λ seen are. noted_first seen racy_run (Races (map race_of (take 0 races))) before.racy.items (λ x. refl) are;
  }

  -- there is room for one more
  pub noting_fits : (n : ℕ) (now : Explored A) → IsNoting n now → before.runs < MAX_RUNS → n < 2 ^ 63 → All (λ v. v.runs + 1 < 2 ^ 64) now.racy.items
  noting_fits n now noting few short =
      All-weaker (λ (v : RacyVariable A). v.runs ≤ before.runs + n) (λ (v : RacyVariable A). v.runs + 1 < 2 ^ 64) (λ v below. omega (arith, below, few, short))
      now.racy.items noting.few

  module _ (n : ℕ) (race : tool.Race) (at : slice_get races n ≡ Some race) (right : HasVerdict (trace_of r) (Races (map race_of races))) where
    there : slice_get (map race_of races) n ≡ Some (race_of race)
    there = slice_get-map race_of races n ∙ ap (option_map race_of) at

    -- its accesses are those of events
    pub race_accesses : AreAccesses r.events (race_of race)
    race_accesses = let conflict = (right.2.each n (race_of race) there).race.conflict in (conflict.1, conflict.2)

    -- and one more is
    pub noting_goes_on : (now next : Explored A) → IsNoting n now → HasSameCounts now next → next.bad.items ≡ now.bad.items
        → CountsRace r.events picks (race_of race) now.racy.items next.racy.items → IsNoting (n + 1) next
    noting_goes_on now next noting same ends counts = record {
      same = same_counts_on before now next noting.same same;
      bad = ends ∙ noting.bad;
      few = subst (λ m. All (λ (v : RacyVariable A). v.runs ≤ m) next.racy.items) one_more
          (racy_bounded r.events picks (race_of race) now.racy.items next.racy.items (before.runs + n) counts noting.few);
      noted = λ seen are. subst (λ rs. AreNoted seen racy_run (Races rs) next.racy.items) (sym longer)
          (noted_more seen racy_run (map race_of (take n races)) (race_of race) now.racy.items next.racy.items (noting.noted seen are) first
          (has_race (map race_of races) n (race_of race) there) counts);
    }
      where
        one_more : before.runs + n + 1 ≡ before.runs + (n + 1)
        one_more = omega arith

        longer : map race_of (take (n + 1) races) ≡ map race_of (take n races) ++ race_of race ∷ []
        longer = ap (map race_of) (take_next races n race at) ∙ map-append race_of (take n races) (race ∷ [])

        first : is_racy_on race.var (Races (map race_of (take n races))) ≡ false
        first =
            ap (λ rs. is_racy_on race.var (Races rs)) (sym (take-map race_of n races))
            ∙ not_yet (capacities (trace_of r)) r.events (map race_of races) n (race_of race) right.2 there

  -- all are
  pub noting_ends : (now : Explored A) → IsNoting (length races) now → (seen : List Looked) → AreRacy seen before.racy.items
      → AreRacy (seen ++ racy_run ∷ []) now.racy.items
  noting_ends now noting seen are =
      noted_all seen racy_run now.racy.items
      (subst (λ rs. AreNoted seen racy_run (Races (map race_of rs)) now.racy.items) (take_all (length races) races (omega arith)) (noting.noted seen are))
