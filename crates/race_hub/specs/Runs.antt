-- A run of a hub: one step after another, whoever makes them. (Our own)
use Rattle.std.specs.Prelude.{ℕ, ◌≡◌, ◌⊎◌, false, List, [], ◌∷◌, slice_get, Some, None}
use Rattle.race_records.specs.Declarations.{DeclsState}
use Rattle.race_hub.specs.{Job.JobState, Hub.{HubState, opening, end_of}, Fires.IsFired}
use Rattle.race_hub.specs.{Submits.{Takes, Submits, is_stray}, Kept.IsKept}

-- a job is taken, or one is put back, or a choice is performed, of whatever pick; what is refused is no step
abbrev pub IsStep : {R : Type 0} → HubState R → HubState R → Type 0
IsStep {R} old new =
    ((job : JobState R) × (end_of old ≡ None) × Takes old job new)
    ⊎ (((job : JobState R) × (is_stray old job ≡ false) × Submits old job new) ⊎ ((pick : ℕ) × IsFired pick old new))

-- the states follow one another, each by a step
abbrev pub AreSteps : {R : Type 0} → HubState R → List (HubState R) → Type 0
AreSteps h [] = Unit {0}
AreSteps h (next ∷ rest) = IsStep h next × AreSteps next rest

-- each state of each run is kept
abbrev pub EachRunIsKept : Type 0 → Type 0
EachRunIsKept R =
    (decls : DeclsState) (limit : ℕ) (main : R) (others : List R) (states : List (HubState R)) → AreSteps (opening decls limit main others) states
    → (i : ℕ) (h : HubState R) → slice_get states i ≡ Some h → IsKept h
