-- What is told of the variables with races once one run more was seen.
use Rattle.std.proofs.Common.{ℕ, zero, suc, ◌≡◌, ◌⊎◌, ◌<◌, ◌≤◌, ◌+◌, ◌++◌, ◌==◌, ◌||◌, Bool, true, false, cond, List, [], ◌∷◌}
use Rattle.std.proofs.Common.{length, take, Some, All, refl, sym, ap, ◌∙◌, arith, subst, inl, inr, true≢false}
use Rattle.std.{proofs.lemmas.{Bool.{cases_Bool, eqb-true, eq-eqb, or_cases}, Option.{none-some, slice_get_within, get_or_from_slice_get}}, specs.Prelude.{slice_get}}
use Rattle.std.proofs.lemmas.List.{Elements.{All-set, All-push, All-weaker}, Folds.list_any-append}
use Rattle.std.specs.List.{list_any}
use Rattle.race_records.specs.declared.event.Event.{Event}
use Rattle.race_model.specs.Verdict.{Race, Verdict, Races, AreReportedRaces}
use Rattle.race_explore.specs.declared.explored.RacyVariable.{RacyVariable}
use Rattle.race_explore.specs.Looked.{Looked}
use Rattle.race_explore.specs.Told.{HasRace, is_racy_on, racy_runs, ShowsRace, AreRacy, CountsRace}
use Rattle.race_explore.proofs.{CountLemmas.count_more, ElementLemmas.{at_front, at_end, all_at, all_from_at, none_passes, none_before_push}}
use Rattle.race_explore.proofs.TallyLemmas.{IsTally, same_tally, not_met, counted_there, counted_new}

-- what passes stands somewhere
any_at : {X : Type 0} (p : X → Bool) (xs : List X) → list_any p xs ≡ true → (k : ℕ) × (x : X) × (slice_get xs k ≡ Some x) × (p x ≡ true)
any_at p [] is = absurd (true≢false (sym is))
any_at p (y ∷ xs) is = by (or_cases (p y) (list_any p xs) is) (λ rest. any_at p xs rest)
  where
    by : (p y ≡ true) ⊎ (list_any p xs ≡ true) → (list_any p xs ≡ true → (k : ℕ) × (x : _) × (slice_get xs k ≡ Some x) × (p x ≡ true))
        → (k : ℕ) × (x : _) × (slice_get (y ∷ xs) k ≡ Some x) × (p x ≡ true)
    by (inl here) rest = (0, y, refl, here)
    by (inr later) rest = let (k, x, at, passes) = rest later in (suc k, x, at, passes)

-- what stands among the first n stands there in the whole list
among_first : {X : Type 0} (n : ℕ) (xs : List X) (k : ℕ) (x : X) → slice_get (take n xs) k ≡ Some x → (k < n) × (slice_get xs k ≡ Some x)
among_first zero [] k x at = absurd (none-some x at)
among_first zero (y ∷ xs) k x at = absurd (none-some x at)
among_first (suc n) [] k x at = absurd (none-some x at)
among_first (suc n) (y ∷ xs) zero x at = (omega arith, at)
among_first (suc n) (y ∷ xs) (suc k) x at = let (less, there) = among_first n xs k x at in (omega (arith, less), there)

-- the races are in rising order of their variables, so none of the first n is on the variable of the next one
pub not_yet : (caps : ℕ → ℕ) (events : List Event) (races : List Race) (n : ℕ) (r : Race) → AreReportedRaces caps events races → slice_get races n ≡ Some r
    → is_racy_on r.var (Races (take n races)) ≡ false
not_yet caps events races n r are at = by (cases_Bool (is_racy_on r.var (Races (take n races))))
  where
    by : (is_racy_on r.var (Races (take n races)) ≡ true) ⊎ (is_racy_on r.var (Races (take n races)) ≡ false) → is_racy_on r.var (Races (take n races)) ≡ false
    by (inl passes) =
        let (k, q, there, on) = any_at (λ (race : Race). race.var == r.var) (take n races) passes in
        let (less, whole) = among_first n races k q there in
        let below = are.rising k n q r less whole at in
        let same = eqb-true q.var r.var on in
        absurd (omega (arith, below, same))
    by (inr fails) = fails

-- one race more
one_race_more : (races : List Race) (r : Race) → is_racy_on r.var (Races races) ≡ false → (x : ℕ)
    → cond (is_racy_on x (Races (races ++ r ∷ []))) 1 0 ≡ cond (is_racy_on x (Races races)) 1 0 + cond (r.var == x) 1 0
one_race_more races r new x =
    ap (λ (b : Bool). cond {A = ℕ} b 1 0) (list_any-append (λ (race : Race). race.var == x) races (r ∷ []))
    ∙ by (is_racy_on x (Races races)) refl (r.var == x) refl
  where
    by : (a : Bool) → is_racy_on x (Races races) ≡ a → (b : Bool) → (r.var == x) ≡ b → cond (a || (b || false)) 1 0 ≡ cond a 1 0 + cond b 1 0
    by true before true here =
        absurd (true≢false (sym before ∙ ap (λ (v : ℕ). is_racy_on v (Races races)) (sym (eqb-true r.var x here)) ∙ new))
    by true before false here = refl
    by false before true here = refl
    by false before false here = refl

-- so many of the runs have a race on it, and of one more by this verdict
abbrev pub with_one : List Looked → Verdict → ℕ → ℕ
with_one seen verdict x = racy_runs seen x + cond (is_racy_on x verdict) 1 0

module _ {A : Type 0} where
  abbrev pub var_of : RacyVariable A → ℕ
  var_of v = v.race.var

  abbrev pub runs_of : RacyVariable A → ℕ
  runs_of v = v.runs

  -- of the races of the run so many are noted as this verdict has
  pub record AreNoted (seen : List Looked) (looked : Looked) (verdict : Verdict) (racy : List (RacyVariable A)) : Type 0 where
    pub shown : All (ShowsRace (seen ++ looked ∷ [])) racy
    pub tally : IsTally var_of runs_of racy (with_one seen verdict)

  shown_on : (seen : List Looked) (looked : Looked) (v : RacyVariable A) → ShowsRace seen v → ShowsRace (seen ++ looked ∷ []) v
  shown_on seen looked v shows = record {
    k = shows.k;
    looked = shows.looked;
    among = at_front seen looked shows.looked shows.k shows.among;
    picks = shows.picks;
    race = shows.race;
    accesses = shows.accesses;
    first = none_before_push (λ (earlier : Looked). is_racy_on v.race.var earlier.verdict) seen looked shows.k
        (let within = slice_get_within seen shows.k shows.looked shows.among in omega (arith, within)) shows.first;
  }

  -- at first none is
  pub noted_first : (seen : List Looked) (looked : Looked) (verdict : Verdict) (racy : List (RacyVariable A)) → ((x : ℕ) → is_racy_on x verdict ≡ false)
      → AreRacy seen racy → AreNoted seen looked verdict racy
  noted_first seen looked verdict racy none are = record {
    shown = All-weaker (ShowsRace seen) (ShowsRace (seen ++ looked ∷ [])) (shown_on seen looked) racy are.shown;
    tally = same_tally var_of runs_of racy (racy_runs seen) (with_one seen verdict)
        record { each = all_at (λ (v : RacyVariable A). v.runs ≡ racy_runs seen v.race.var) racy are.runs; once = are.once; every = are.every }
        (λ x. let zero_here : ◌≡◌ {A = ℕ} (cond (is_racy_on x verdict) 1 0) 0 = ap (λ (b : Bool). cond {A = ℕ} b 1 0) (none x) in omega (arith, zero_here));
  }

  -- at the end all are
  pub noted_all : (seen : List Looked) (looked : Looked) (racy : List (RacyVariable A)) → AreNoted seen looked looked.verdict racy
      → AreRacy (seen ++ looked ∷ []) racy
  noted_all seen looked racy noted =
      let all : IsTally var_of runs_of racy (racy_runs (seen ++ looked ∷ [])) =
      same_tally var_of runs_of racy (with_one seen looked.verdict) (racy_runs (seen ++ looked ∷ [])) noted.tally
      (λ x. count_more (λ (l : Looked). is_racy_on x l.verdict) seen looked) in
      record {
        shown = noted.shown;
        runs = all_from_at (λ (v : RacyVariable A). v.runs ≡ racy_runs (seen ++ looked ∷ []) v.race.var) racy all.each;
        every = all.every;
        once = all.once;
      }

  -- and one more is
  pub noted_more : (seen : List Looked) (looked : Looked) (races : List Race) (r : Race) (old new : List (RacyVariable A))
      → AreNoted seen looked (Races races) old → is_racy_on r.var (Races races) ≡ false → HasRace looked.verdict r
      → CountsRace looked.run.events looked.picks r old new → AreNoted seen looked (Races (races ++ r ∷ [])) new
  noted_more seen looked races r old new noted first has counts = by counts
    where
      more : (x : ℕ) → with_one seen (Races (races ++ r ∷ [])) x ≡ with_one seen (Races races) x + cond (r.var == x) 1 0
      more x = let one = one_race_more races r first x in omega (arith, one)

      sound : (x : ℕ) → (r.var == x) ≡ true → x ≡ r.var
      sound x is = sym (eqb-true r.var x is)

      there : (r.var == r.var) ≡ true
      there = eq-eqb r.var r.var refl

      by : CountsRace looked.run.events looked.picks r old new → AreNoted seen looked (Races (races ++ r ∷ [])) new
      by (inl (i, v, at, same, is)) =
          let d : RacyVariable A = record v { runs = v.runs + 1 } in
          let s = all_at (ShowsRace (seen ++ looked ∷ [])) old noted.shown i v at in
          let shows : ShowsRace (seen ++ looked ∷ []) d = record {
            k = s.k;
            looked = s.looked;
            among = s.among;
            picks = s.picks;
            race = s.race;
            accesses = s.accesses;
            first = s.first;
          } in
          subst (AreNoted seen looked (Races (races ++ r ∷ []))) (sym is) record {
            shown = All-set (ShowsRace (seen ++ looked ∷ [])) old i d shows noted.shown;
            tally = counted_there var_of runs_of old (with_one seen (Races races)) (with_one seen (Races (races ++ r ∷ []))) noted.tally r.var (λ x. r.var == x)
                sound there more i v d at same refl refl;
          }
      by (inr (none, v, new_one, is)) =
          let unmet : with_one seen (Races races) r.var ≡ 0 = not_met var_of runs_of old (with_one seen (Races races)) noted.tally r.var none in
          let none_seen : racy_runs seen r.var ≡ 0 = omega (arith, unmet) in
          let var_is : v.race.var ≡ r.var = ap (λ (q : Race). q.var) new_one.race in
          let no_run : racy_runs seen v.race.var ≡ 0 = ap (racy_runs seen) var_is ∙ none_seen in
          let shows : ShowsRace (seen ++ looked ∷ []) v = record {
            k = length seen;
            looked = looked;
            among = at_end seen looked;
            picks = new_one.picks;
            race = subst (HasRace looked.verdict) (sym new_one.race) has;
            accesses = new_one.accesses;
            first = none_before_push (λ (earlier : Looked). is_racy_on v.race.var earlier.verdict) seen looked (length seen) (omega arith)
                (λ j earlier less at. none_passes (λ (l : Looked). is_racy_on v.race.var l.verdict) seen no_run j earlier at);
          } in
          subst (AreNoted seen looked (Races (races ++ r ∷ []))) (sym is) record {
            shown = All-push (ShowsRace (seen ++ looked ∷ [])) old v noted.shown shows;
            tally = counted_new var_of runs_of old (with_one seen (Races races)) (with_one seen (Races (races ++ r ∷ []))) noted.tally r.var (λ x. r.var == x)
                sound there more none v (ap (λ (q : Race). q.var) new_one.race) new_one.runs;
          }

-- what stands in the list is one of its races
pub has_race : (races : List Race) (n : ℕ) (r : Race) → slice_get races n ≡ Some r → HasRace (Races races) r
has_race races n r at = (n, slice_get_within races n r at, get_or_from_slice_get races n r r at)

-- no entry counts more than one more
pub racy_bounded : {A : Type 0} (events : List Event) (picks : List ℕ) (r : Race) (old new : List (RacyVariable A)) (n : ℕ) → CountsRace events picks r old new
    → All (λ v. v.runs ≤ n) old → All (λ v. v.runs ≤ n + 1) new
racy_bounded {A = A} events picks r old new n counts all = by counts
  where
    wider : All (λ (v : RacyVariable A). v.runs ≤ n + 1) old
    wider = All-weaker (λ (v : RacyVariable A). v.runs ≤ n) (λ (v : RacyVariable A). v.runs ≤ n + 1) (λ v below. omega (arith, below)) old all

    by : CountsRace events picks r old new → All (λ (v : RacyVariable A). v.runs ≤ n + 1) new
    by (inl (i, v, at, same, is)) =
        let below : v.runs ≤ n = all_at (λ (v : RacyVariable A). v.runs ≤ n) old all i v at in
        subst (All (λ (v : RacyVariable A). v.runs ≤ n + 1)) (sym is)
        (All-set (λ (v : RacyVariable A). v.runs ≤ n + 1) old i (record v { runs = v.runs + 1 }) (omega (arith, below)) wider)
    by (inr (none, v, new_one, is)) =
        let one = new_one.runs in
        subst (All (λ (v : RacyVariable A). v.runs ≤ n + 1)) (sym is)
        (All-push (λ (v : RacyVariable A). v.runs ≤ n + 1) old v wider (omega (arith, one)))
