-- What is kept of a variable's accesses.
use Rattle.std.specs.Prelude.{ℕ, ◌≡◌, ◌<◌, ◌≤◌, ◌⊎◌, nat_le, nat_lt, if◌then◌else◌, Bool, true, false, List, [], ◌∷◌}
use Rattle.std.specs.{Prelude.{length, Option, Some, None, AllPairs}, Borrow.Bor, List.Contains}
use Rattle.std.specs.{List.Sorted.IsPartitionPoint, Option.option_map}
use Rattle.race_access.specs.declared.access.Access.{Access}
use Rattle.race_clock.specs.{ClockState.knows, declared.stamp.Stamp.Stamp}
use Rattle.race_verdict.specs.declared.report.ReportedAccess.{ReportedAccess}

-- the pair of the first race, with what is printed of both; before it the last Write, and Reads
pub record Kept : Type 0 where
  pub pair : Option (ℕ × ℕ)
  pub noted : Option (ReportedAccess × ReportedAccess)
  pub write : Access
  pub reads : List Access

-- what is kept of a stamp with its place
abbrev pub access_of : Stamp → ℕ → Access
access_of stamp place = record { at = stamp.at; who = stamp.who; count = stamp.count; place = place; write = stamp.write }

-- what is printed of an access
abbrev pub note_of : Access → ReportedAccess
note_of e = record { at = e.at; who = e.who; write = e.write; place = e.place }

-- what is printed of the one that was found, if any
abbrev pub note_found : Option (Bor Access) → Option ReportedAccess
note_found found = option_map (λ e. note_of e.now) found

-- no access: its count is 0, so every clock knows it
abbrev pub no_access : Access
no_access = record { at = 0; who = 0; count = 0; place = 0; write = false }

-- the clock knows the access
abbrev pub Knows : List ℕ → Access → Type 0
Knows clock e = e.count ≤ knows clock e.who

abbrev pub is_known : List ℕ → Access → Bool
is_known clock e = nat_le e.count (knows clock e.who)

-- of these the one that the clock doesn't know with the greatest event number
abbrev pub IsGreatestUnknown : List ℕ → List Access → Option ReportedAccess → Type 0
IsGreatestUnknown clock kept None = (e : Access) → Contains kept e → Knows clock e
IsGreatestUnknown clock kept (Some n) =
    (e : Access) × Contains kept e × (note_of e ≡ n) × (¬ Knows clock e) × ((f : Access) → Contains kept f → ¬ Knows clock f → f.at ≤ n.at)

-- the later of two accesses, where there are any
abbrev pub greater : Option ReportedAccess → Option ReportedAccess → Option ReportedAccess
greater None b = b
greater (Some m) None = Some m
greater (Some m) (Some n) = Some (if nat_lt m.at n.at then n else m)

abbrev pub candidates_by : Bool → Kept → List Access
candidates_by true kept = kept.write ∷ kept.reads
candidates_by false kept = kept.write ∷ []

-- the kept accesses with which an access can race: a Read with the Write alone
abbrev pub candidates : Access → Kept → List Access
candidates access kept = candidates_by access.write kept

-- they stand in rising order of their goroutines, so that there is one at most of each
abbrev pub AreRising : List Access → Type 0
AreRising reads = AllPairs (λ d e. d.who < e.who) reads

-- before the place stand those of lower goroutines alone, and none of them from there on
abbrev pub IsPlaceOf : List Access → ℕ → ℕ → Type 0
IsPlaceOf reads who place = (place ≤ length reads) × IsPartitionPoint (λ e. e.who < who) (λ e. who ≤ e.who) reads place

-- what may be kept behind an access: itself, nothing that wasn't kept before, and all that it doesn't know
pub record KeepsRead (old new : List Access) (access : Access) (clock : List ℕ) : Type 0 where
  pub itself : Contains new access
  pub nothing_else : (e : Access) → Contains new e → 0 < e.count → Contains old e ⊎ (e ≡ access)
  pub dropped : (e : Access) → Contains old e → Contains new e ⊎ Knows clock e ⊎ (e.who ≡ access.who)

-- some of the accesses that the clock knows are dropped, and the others stay as they are
pub record DropsKnown (old new : List Access) (clock : List ℕ) : Type 0 where
  pub nothing_else : (e : Access) → Contains new e → Contains old e
  pub dropped : (e : Access) → Contains old e → Contains new e ⊎ Knows clock e
  pub unless_all : length old ≤ length new → new ≡ old

-- behind a Write it alone is kept
pub record KeepsWrite (new : Kept) (access : Access) : Type 0 where
  pub write : new.write ≡ access
  pub reads : (e : Access) → Contains new.reads e → e.count ≡ 0

abbrev pub KeepsBy : Bool → Kept → Kept → Access → List ℕ → Type 0
KeepsBy true old new access clock = KeepsWrite new access
KeepsBy false old new access clock = (new.write ≡ old.write) × KeepsRead old.reads new.reads access clock

-- what is kept behind an access that races with none
abbrev pub IsKeptOn : Kept → Kept → Access → List ℕ → Type 0
IsKeptOn old new access clock = (new.pair ≡ None) × (new.noted ≡ None) × KeepsBy access.write old new access clock
