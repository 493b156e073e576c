-- What is told of the variables with races, over the runs that were seen. (Our own)
use Rattle.std.specs.Prelude.{ℕ, ◌≡◌, ◌<◌, ◌⊎◌, ◌+◌, ◌++◌, ◌==◌, Bool, false, List, [], ◌∷◌, All, count_by, slice_get, slice_set, Some}
use Rattle.std.specs.List.{Contains, list_any}
use Rattle.race_records.specs.declared.event.Event.{Event}
use Rattle.race_model.specs.Verdict.{Race, Verdict, Races}
use Rattle.race_verdict.specs.Notes.{IsNotedRaceOf, race_noted}
use Rattle.race_explore.specs.declared.explored.RacyVariable.{RacyVariable}
use Rattle.race_explore.specs.Looked.{Looked}

-- one that is such stands there, or nowhere
abbrev pub StandsAt : {E : Type 0} → (E → Type 0) → List E → ℕ → Type 0
StandsAt {E} Such list k = (e : E) × (slice_get list k ≡ Some e) × Such e

abbrev pub StandsNowhere : {E : Type 0} → (E → Type 0) → List E → Type 0
StandsNowhere {E} Such list = (k : ℕ) (e : E) → slice_get list k ≡ Some e → Such e → ⊥

-- the one that is such counts one more; or there was none, and a new one comes last
abbrev pub CountsOne : {E : Type 0} → (E → Type 0) → (E → E) → (E → Type 0) → List E → List E → Type 0
CountsOne {E} Such more New old new =
    ((k : ℕ) × (e : E) × (slice_get old k ≡ Some e) × Such e × (new ≡ slice_set old k (more e)))
    ⊎ (StandsNowhere Such old × (e : E) × New e × (new ≡ old ++ e ∷ []))

-- it is a race of the verdict
abbrev pub HasRace : Verdict → Race → Type 0
HasRace (Races races) race = Contains races race
HasRace _ race = ⊥

-- there is one on the variable
abbrev pub is_racy_on : ℕ → Verdict → Bool
is_racy_on x (Races races) = list_any (λ race. race.var == x) races
is_racy_on x _ = false

-- how many of the runs have one
abbrev pub racy_runs : List Looked → ℕ → ℕ
racy_runs seen x = count_by (λ looked. is_racy_on x looked.verdict) seen

-- none of the runs before number k is such
abbrev pub NoneBefore : List Looked → ℕ → (Looked → Bool) → Type 0
NoneBefore seen k is_such = (j : ℕ) (earlier : Looked) → j < k → slice_get seen j ≡ Some earlier → is_such earlier ≡ false

-- a run that was seen, the first with a race on the variable, has this race, with its accesses as they are told, and these picks
pub record ShowsRace {A : Type 0} (seen : List Looked) (v : RacyVariable A) : Type 0 where
  pub k : ℕ
  pub looked : Looked
  pub among : slice_get seen k ≡ Some looked
  pub picks : v.picks.items ≡ looked.picks
  pub race : HasRace looked.verdict (race_noted v.race)
  pub accesses : IsNotedRaceOf looked.run.events v.race
  pub first : NoneBefore seen k (λ earlier. is_racy_on v.race.var earlier.verdict)

-- a variable that was in no race before is told: the race is one of that list of events, in the run by those picks
pub record IsNewRacy {A : Type 0} (events : List Event) (taken : List ℕ) (found : Race) (v : RacyVariable A) : Type 0 where
  pub race : race_noted v.race ≡ found
  pub accesses : IsNotedRaceOf events v.race
  pub picks : v.picks.items ≡ taken
  pub runs : v.runs ≡ 1

-- that is told of the variable
abbrev pub IsOn : {A : Type 0} → ℕ → RacyVariable A → Type 0
IsOn x v = v.race.var ≡ x

-- one run more has the race: what is told of its variable counts it, or there is something new
abbrev pub CountsRace : {A : Type 0} → List Event → List ℕ → Race → List (RacyVariable A) → List (RacyVariable A) → Type 0
CountsRace {A} events picks race old new =
    CountsOne (IsOn {A = A} race.var) (λ v. record v { runs = v.runs + 1 }) (IsNewRacy events picks race) old new

-- what is told of the variables with races
pub record AreRacy {A : Type 0} (seen : List Looked) (racy : List (RacyVariable A)) : Type 0 where
  -- each one's race is that of a run by its picks
  pub shown : All (ShowsRace seen) racy
  -- so many of the runs have a race on it
  pub runs : All (λ v. v.runs ≡ racy_runs seen v.race.var) racy
  -- each variable with a race in some run is told
  pub every : (x : ℕ) → 0 < racy_runs seen x → (k : ℕ) × (v : RacyVariable A) × (slice_get racy k ≡ Some v) × (v.race.var ≡ x)
  -- none is told twice
  pub once : (k m : ℕ) (v w : RacyVariable A) → slice_get racy k ≡ Some v → slice_get racy m ≡ Some w → v.race.var ≡ w.race.var → k ≡ m
