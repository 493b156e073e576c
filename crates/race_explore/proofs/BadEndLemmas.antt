-- What is reported of the ends other than main's return once one run more was seen.
use Rattle.std.proofs.Common.{ℕ, ◌≡◌, ◌⊎◌, ◌<◌, ◌≤◌, ◌+◌, ◌++◌, ◌==◌, ◌&&◌, ◌^◌, Bool, MatchBool, true, false, cond, not, List, [], ◌∷◌}
use Rattle.std.proofs.Common.{length, Some, All, Decides, refl, sym, ap, ◌∙◌, arith, subst, inl, inr, true≢false}
use Rattle.std.proofs.lemmas.{Bool.{cases_Bool, eqb-true, eq-eqb, and_parts, and_from, not-true}, Option.slice_get_within, Slice.Eq.slice_eq-Decides}
use Rattle.std.specs.Prelude.{slice_get, slice_set}
use Rattle.std.proofs.lemmas.List.{Elements.{All-set, All-push, All-weaker}, Sums.count_by-le-length}
use Rattle.race_hub.specs.{declared.ending.End.End, Recording.RecordingState}
use Rattle.race_explore.specs.declared.{explored.Explored.Explored, stuck.{BadEnd.BadEnd, Standing.Standing}, walk.TheConstants.MAX_RUNS}
use Rattle.race_explore.specs.{Looked.{Counts, Looked, is_main_end}, Standing.{standing_of, is_same_end, is_same_standing}}
use Rattle.race_explore.specs.Ends.{ends_so, ended_runs, ShowsEnd, AreBadEnds, CountsEnd, CountsEndOf}
use Rattle.race_explore.proofs.{CountLemmas.count_more, ElementLemmas.{at_front, at_end, all_at, all_from_at, none_passes, none_before_push}}
use Rattle.race_explore.proofs.TallyLemmas.{IsTally, same_tally, not_met, counted_there, counted_new}

-- ends that the test finds the same are
same_end : (e f : End) → is_same_end e f ≡ true → e ≡ f
same_end End.Main End.Main is = refl
same_end End.Main End.Fault is = absurd (true≢false (sym is))
same_end End.Main (End.Bad h) is = absurd (true≢false (sym is))
same_end End.Main End.Limit is = absurd (true≢false (sym is))
same_end End.Main End.Deadlock is = absurd (true≢false (sym is))
same_end End.Fault End.Main is = absurd (true≢false (sym is))
same_end End.Fault End.Fault is = refl
same_end End.Fault (End.Bad h) is = absurd (true≢false (sym is))
same_end End.Fault End.Limit is = absurd (true≢false (sym is))
same_end End.Fault End.Deadlock is = absurd (true≢false (sym is))
same_end (End.Bad g) End.Main is = absurd (true≢false (sym is))
same_end (End.Bad g) End.Fault is = absurd (true≢false (sym is))
same_end (End.Bad g) (End.Bad h) is = ap (λ n. End.Bad n) (eqb-true g h is)
same_end (End.Bad g) End.Limit is = absurd (true≢false (sym is))
same_end (End.Bad g) End.Deadlock is = absurd (true≢false (sym is))
same_end End.Limit End.Main is = absurd (true≢false (sym is))
same_end End.Limit End.Fault is = absurd (true≢false (sym is))
same_end End.Limit (End.Bad h) is = absurd (true≢false (sym is))
same_end End.Limit End.Limit is = refl
same_end End.Limit End.Deadlock is = absurd (true≢false (sym is))
same_end End.Deadlock End.Main is = absurd (true≢false (sym is))
same_end End.Deadlock End.Fault is = absurd (true≢false (sym is))
same_end End.Deadlock (End.Bad h) is = absurd (true≢false (sym is))
same_end End.Deadlock End.Limit is = absurd (true≢false (sym is))
same_end End.Deadlock End.Deadlock is = refl

its_own_end : (e : End) → is_same_end e e ≡ true
its_own_end End.Main = refl
its_own_end End.Fault = refl
its_own_end (End.Bad g) = eq-eqb g g refl
its_own_end End.Limit = refl
its_own_end End.Deadlock = refl

pub same_place : (s t : Standing) → Decides ((s.who == t.who) && (s.place == t.place)) (s ≡ t)
same_place s t = (
  λ is. let (who, place) = and_parts (s.who == t.who) (s.place == t.place) is in
      let who_is = eqb-true s.who t.who who in
      let place_is = eqb-true s.place t.place place in
      λ i. record { who = who_is i; place = place_is i },
  λ is. and_from (s.who == t.who) (s.place == t.place) (eq-eqb s.who t.who (ap (λ (x : Standing). x.who) is))
      (eq-eqb s.place t.place (ap (λ (x : Standing). x.place) is)),
)

same_standing : (these those : List Standing) → Decides (is_same_standing these those) (these ≡ those)
same_standing these those = slice_eq-Decides same_place these those (is_same_standing these those) refl

-- the way in which this run ended
abbrev pub met_by : Looked → End × List Standing
met_by looked = (looked.run.end, standing_of looked.run)

abbrev pub ended_in : List Looked → End × List Standing → ℕ
ended_in seen way = ended_runs seen way.0 way.1

-- how many ended in that way, with one more
one_more_end : (seen : List Looked) (looked : Looked) (way : End × List Standing)
    → ended_in (seen ++ looked ∷ []) way ≡ ended_in seen way + cond (ends_so way.0 way.1 looked) 1 0
one_more_end seen looked way = count_more (ends_so way.0 way.1) seen looked

-- only one way is that of a run
one_way : (looked : Looked) (way : End × List Standing) → ends_so way.0 way.1 looked ≡ true
    → (is_main_end looked.run.end ≡ false) × (way ≡ (looked.run.end, standing_of looked.run))
one_way looked way is =
    let (bad, same) = and_parts (not (is_main_end looked.run.end)) (is_same_end way.0 looked.run.end && is_same_standing way.1 (standing_of looked.run)) is in
    let (ends, stands) = and_parts (is_same_end way.0 looked.run.end) (is_same_standing way.1 (standing_of looked.run)) same in
    let end : way.0 ≡ looked.run.end = same_end way.0 looked.run.end ends in
    let standing : way.1 ≡ standing_of looked.run = (same_standing way.1 (standing_of looked.run)).0 stands in
    (not-true (is_main_end looked.run.end) bad, λ i. (end i, standing i))

module _ {A : Type 0} where
  abbrev pub way_of : BadEnd A → End × List Standing
  way_of b = (b.end, b.standing.items)

  abbrev pub times_of : BadEnd A → ℕ
  times_of b = b.runs

  tally_of : (seen : List Looked) (bad : List (BadEnd A)) → AreBadEnds seen bad → IsTally way_of times_of bad (ended_in seen)
  tally_of seen bad are = record {
    each = all_at (λ (b : BadEnd A). b.runs ≡ ended_runs seen b.end b.standing.items) bad are.runs;
    once = λ k m b c at there same. are.once k m b c at there (ap (λ (w : End × List Standing). w.0) same) (ap (λ (w : End × List Standing). w.1) same);
    every = λ way some. let (k, b, at, end, standing) = are.every way.0 way.1 some in (k, b, at, λ i. (end i, standing i));
  }

  reported_of : (seen : List Looked) (bad : List (BadEnd A)) → All (ShowsEnd seen) bad → IsTally way_of times_of bad (ended_in seen) → AreBadEnds seen bad
  reported_of seen bad shown tally = record {
    shown = shown;
    runs = all_from_at (λ (b : BadEnd A). b.runs ≡ ended_runs seen b.end b.standing.items) bad tally.each;
    every = λ end standing some. let (k, b, at, way) = tally.every (end, standing) some in
        (k, b, at, ap (λ (w : End × List Standing). w.0) way, ap (λ (w : End × List Standing). w.1) way);
    once = λ k m b c at there end standing. tally.once k m b c at there (λ i. (end i, standing i));
  }

  shown_on : (seen : List Looked) (looked : Looked) (b : BadEnd A) → ShowsEnd seen b → ShowsEnd (seen ++ looked ∷ []) b
  shown_on seen looked b shows = record {
    k = shows.k;
    looked = shows.looked;
    among = at_front seen looked shows.looked shows.k shows.among;
    picks = shows.picks;
    end = shows.end;
    standing = shows.standing;
    first = none_before_push (ends_so b.end b.standing.items) seen looked shows.k
        (let within = slice_get_within seen shows.k shows.looked shows.among in omega (arith, within)) shows.first;
  }

  all_shown : (seen : List Looked) (looked : Looked) (bad : List (BadEnd A)) → All (ShowsEnd seen) bad → All (ShowsEnd (seen ++ looked ∷ [])) bad
  all_shown seen looked bad all = All-weaker (ShowsEnd seen) (ShowsEnd (seen ++ looked ∷ [])) (shown_on seen looked) bad all

  -- a run in which main returned
  bad_stay : (seen : List Looked) (looked : Looked) (bad : List (BadEnd A)) → is_main_end looked.run.end ≡ true → AreBadEnds seen bad
      → AreBadEnds (seen ++ looked ∷ []) bad
  bad_stay seen looked bad main are =
      reported_of (seen ++ looked ∷ []) bad (all_shown seen looked bad are.shown)
      (same_tally way_of times_of bad (ended_in seen) (ended_in (seen ++ looked ∷ [])) (tally_of seen bad are) same)
    where
      none : (way : End × List Standing) → ends_so way.0 way.1 looked ≡ false
      none way = by (cases_Bool (ends_so way.0 way.1 looked))
        where
          by : (ends_so way.0 way.1 looked ≡ true) ⊎ (ends_so way.0 way.1 looked ≡ false) → ends_so way.0 way.1 looked ≡ false
          by (inl so) = absurd (true≢false (sym main ∙ (one_way looked way so).0))
          by (inr fails) = fails

      same : (way : End × List Standing) → ended_in (seen ++ looked ∷ []) way ≡ ended_in seen way
      same way =
          let more = one_more_end seen looked way in
          let none_here : ◌≡◌ {A = ℕ} (cond (ends_so way.0 way.1 looked) 1 0) 0 = ap (λ (b : Bool). cond {A = ℕ} b 1 0) (none way) in
          omega (arith, more, none_here)

  -- one in which it didn't
  bad_more : (seen : List Looked) (looked : Looked) (old new : List (BadEnd A)) → is_main_end looked.run.end ≡ false
      → CountsEnd looked.run.end (standing_of looked.run) looked.picks old new → AreBadEnds seen old → AreBadEnds (seen ++ looked ∷ []) new
  bad_more seen looked old new other counts are = by counts
    where
      there : ends_so looked.run.end (standing_of looked.run) looked ≡ true
      there =
          and_from (not (is_main_end looked.run.end)) (is_same_end looked.run.end looked.run.end && is_same_standing (standing_of looked.run) (standing_of looked.run))
          (ap not other)
          (and_from (is_same_end looked.run.end looked.run.end) (is_same_standing (standing_of looked.run) (standing_of looked.run)) (its_own_end looked.run.end)
          ((same_standing (standing_of looked.run) (standing_of looked.run)).1 refl))

      by : CountsEnd looked.run.end (standing_of looked.run) looked.picks old new → AreBadEnds (seen ++ looked ∷ []) new
      by (inl (i, b, at, same, is)) =
          let d : BadEnd A = record b { runs = b.runs + 1 } in
          let s = all_at (ShowsEnd (seen ++ looked ∷ [])) old (all_shown seen looked old are.shown) i b at in
          let shows : ShowsEnd (seen ++ looked ∷ []) d = record {
            k = s.k;
            looked = s.looked;
            among = s.among;
            picks = s.picks;
            end = s.end;
            standing = s.standing;
            first = s.first;
          } in
          subst (AreBadEnds (seen ++ looked ∷ [])) (sym is)
          (reported_of (seen ++ looked ∷ []) (slice_set old i d) (All-set (ShowsEnd (seen ++ looked ∷ [])) old i d shows (all_shown seen looked old are.shown))
          (counted_there way_of times_of old (ended_in seen) (ended_in (seen ++ looked ∷ [])) (tally_of seen old are) (met_by looked) (λ way. ends_so way.0 way.1 looked)
          (λ way so. (one_way looked way so).1) there (one_more_end seen looked) i b d at (λ j. (same.0 j, same.1 j)) refl refl))
      by (inr (none, b, new_one, is)) =
          let nowhere : (k : ℕ) (e : BadEnd A) → slice_get old k ≡ Some e → way_of e ≡ met_by looked → ⊥ =
          (λ k e at same. none k e at (ap (λ (w : End × List Standing). w.0) same, ap (λ (w : End × List Standing). w.1) same)) in
          let unmet : ended_in seen (met_by looked) ≡ 0 = not_met way_of times_of old (ended_in seen) (tally_of seen old are) (met_by looked) nowhere in
          let no_run : ended_runs seen b.end b.standing.items ≡ 0 =
          (λ j. ended_runs seen (new_one.end j) (new_one.standing j)) ∙ unmet in
          let shows : ShowsEnd (seen ++ looked ∷ []) b = record {
            k = length seen;
            looked = looked;
            among = at_end seen looked;
            picks = new_one.picks;
            end = new_one.end;
            standing = new_one.standing;
            first = none_before_push (ends_so b.end b.standing.items) seen looked (length seen) (omega arith)
                (λ j earlier less at. none_passes (ends_so b.end b.standing.items) seen no_run j earlier at);
          } in
          subst (AreBadEnds (seen ++ looked ∷ [])) (sym is)
          (reported_of (seen ++ looked ∷ []) (old ++ b ∷ []) (All-push (ShowsEnd (seen ++ looked ∷ [])) old b (all_shown seen looked old are.shown) shows)
          (counted_new way_of times_of old (ended_in seen) (ended_in (seen ++ looked ∷ [])) (tally_of seen old are) (met_by looked) (λ way. ends_so way.0 way.1 looked)
          (λ way so. (one_way looked way so).1) there (one_more_end seen looked)
          nowhere b (λ j. (new_one.end j, new_one.standing j)) new_one.runs))

  -- either
  pub bad_counted : (seen : List Looked) (looked : Looked) (old new : List (BadEnd A)) → CountsEndOf looked.run looked.picks old new
      → AreBadEnds seen old → AreBadEnds (seen ++ looked ∷ []) new
  bad_counted seen looked old new counts are = by (is_main_end looked.run.end) refl counts
    where
      by : (main : Bool) → is_main_end looked.run.end ≡ main
          → MatchBool main (new ≡ old) (CountsEnd looked.run.end (standing_of looked.run) looked.picks old new) → AreBadEnds (seen ++ looked ∷ []) new
      by true main same = subst (AreBadEnds (seen ++ looked ∷ [])) (sym same) (bad_stay seen looked old main are)
      by false other more = bad_more seen looked old new other more are

  -- no entry counts more runs than there are
  pub bad_few : (seen : List Looked) (e : Explored A) → Counts seen e → AreBadEnds seen e.bad.items → All (λ b. b.runs ≤ e.runs) e.bad.items
  bad_few seen e counts are =
      All-weaker (λ (b : BadEnd A). b.runs ≡ ended_runs seen b.end b.standing.items) (λ (b : BadEnd A). b.runs ≤ e.runs)
      (λ b is. let all = counts.runs in let below = count_by-le-length (ends_so b.end b.standing.items) seen in omega (arith, is, all, below))
      e.bad.items are.runs

  -- so there is room for one more
  pub bad_fits : (bad : List (BadEnd A)) (n : ℕ) → n < MAX_RUNS → All (λ b. b.runs ≤ n) bad → All (λ b. b.runs + 1 < 2 ^ 64) bad
  bad_fits bad n few all =
      All-weaker (λ (b : BadEnd A). b.runs ≤ n) (λ (b : BadEnd A). b.runs + 1 < 2 ^ 64) (λ b below. omega (arith, below, few)) bad all

-- where main returned nothing more is reported
pub counts_none : {A : Type 0} (r : RecordingState) (picks : List ℕ) (bad : List (BadEnd A)) → is_main_end r.end ≡ true → CountsEndOf r picks bad bad
counts_none r picks bad main = subst (λ b. MatchBool b (bad ≡ bad) (CountsEnd r.end (standing_of r) picks bad bad)) (sym main) refl

pub counts_end : {A : Type 0} (r : RecordingState) (picks : List ℕ) (old new : List (BadEnd A)) → is_main_end r.end ≡ false
    → CountsEnd r.end (standing_of r) picks old new → CountsEndOf r picks old new
counts_end r picks old new other counts = subst (λ b. MatchBool b (new ≡ old) (CountsEnd r.end (standing_of r) picks old new)) (sym other) counts
