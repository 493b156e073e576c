-- What is reported of the ends other than main's return, over the runs that were seen. (Our own)
use Rattle.std.specs.Prelude.{ℕ, ◌≡◌, ◌<◌, ◌+◌, ◌&&◌, not, Bool, List, All, MatchBool, count_by, slice_get, Some}
use Rattle.race_hub.specs.{declared.ending.End.End, Recording.RecordingState}
use Rattle.race_explore.specs.declared.stuck.{BadEnd.BadEnd, Standing.Standing}
use Rattle.race_explore.specs.{Looked.{Looked, is_main_end}, Standing.{standing_of, is_same_end, is_same_standing}, Told.{CountsOne, NoneBefore}}

-- main didn't return: the run ended in this way, and its goroutines stand at these places
abbrev pub ends_so : End → List Standing → Looked → Bool
ends_so end standing looked =
    not (is_main_end looked.run.end) && (is_same_end end looked.run.end && is_same_standing standing (standing_of looked.run))

-- how many of the runs ended so
abbrev pub ended_runs : List Looked → End → List Standing → ℕ
ended_runs seen end standing = count_by (ends_so end standing) seen

-- a run that was seen, the first that ended so, has these picks
pub record ShowsEnd {A : Type 0} (seen : List Looked) (b : BadEnd A) : Type 0 where
  pub k : ℕ
  pub looked : Looked
  pub among : slice_get seen k ≡ Some looked
  pub picks : b.picks.items ≡ looked.picks
  pub end : b.end ≡ looked.run.end
  pub standing : b.standing.items ≡ standing_of looked.run
  pub first : NoneBefore seen k (ends_so b.end b.standing.items)

-- an end that no run had before is reported, by these picks
pub record IsNewEnd {A : Type 0} (how : End) (where_each : List Standing) (taken : List ℕ) (b : BadEnd A) : Type 0 where
  pub end : b.end ≡ how
  pub standing : b.standing.items ≡ where_each
  pub picks : b.picks.items ≡ taken
  pub runs : b.runs ≡ 1

-- that is reported of this end
abbrev pub IsOfEnd : {A : Type 0} → End → List Standing → BadEnd A → Type 0
IsOfEnd end standing b = (b.end ≡ end) × (b.standing.items ≡ standing)

-- one run more ended so: what is reported of that end counts it, or there is something new
abbrev pub CountsEnd : {A : Type 0} → End → List Standing → List ℕ → List (BadEnd A) → List (BadEnd A) → Type 0
CountsEnd {A} end standing picks old new =
    CountsOne (IsOfEnd {A = A} end standing) (λ b. record b { runs = b.runs + 1 }) (IsNewEnd end standing picks) old new

-- one run more by these picks was recorded: nothing more is reported where main returned
abbrev pub CountsEndOf : {A : Type 0} → RecordingState → List ℕ → List (BadEnd A) → List (BadEnd A) → Type 0
CountsEndOf r picks old new = MatchBool (is_main_end r.end) (new ≡ old) (CountsEnd r.end (standing_of r) picks old new)

-- what is reported of the ends other than main's return
pub record AreBadEnds {A : Type 0} (seen : List Looked) (bad : List (BadEnd A)) : Type 0 where
  -- each one is that of a run by its picks
  pub shown : All (ShowsEnd seen) bad
  -- so many of the runs ended so
  pub runs : All (λ b. b.runs ≡ ended_runs seen b.end b.standing.items) bad
  -- each way in which some run ended is reported
  pub every : (end : End) (standing : List Standing) → 0 < ended_runs seen end standing
      → (k : ℕ) × (b : BadEnd A) × (slice_get bad k ≡ Some b) × (b.end ≡ end) × (b.standing.items ≡ standing)
  -- none is reported twice
  pub once : (k m : ℕ) (b c : BadEnd A) → slice_get bad k ≡ Some b → slice_get bad m ≡ Some c → b.end ≡ c.end
      → b.standing.items ≡ c.standing.items → k ≡ m
