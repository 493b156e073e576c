-- The stamps of a variable's accesses with their clocks, and which of them race. (The Go Memory Model, "Memory Model": data race)
use Rattle.std.specs.{Prelude.{ℕ, ◌≡◌, ◌≢◌, ◌<◌, ◌⊎◌, ⊤, IsTrue, List, Option, Some, None, slice_get}, List.Contains}
use Rattle.race_model.specs.Race.{RaceBy, IsReportedBy}
use Rattle.race_clock.specs.{declared.stamp.Stamp.Stamp, Laws.IsKnown}
use Rattle.race_verdict.specs.declared.report.ReportedAccess.{ReportedAccess}

-- an access of the variable: its stamp, the number of its place, and the clock of its goroutine behind it
pub record Touch : Type 0 where
  pub stamp : Stamp
  pub place : ℕ
  pub clock : List ℕ

-- a is known to b
abbrev pub IsKnownTo : Touch → Touch → Type 0
IsKnownTo a b = IsKnown a.stamp b.clock

-- touches such as the stamps of one trace give, in their order
pub record IsLawful (touched : List Touch) : Type 0 where
  -- indexes rise
  pub rising : (k m : ℕ) (a b : Touch) → k < m → slice_get touched k ≡ Some a → slice_get touched m ≡ Some b → a.stamp.at < b.stamp.at
  -- an access is known to each later one of its goroutine
  pub own : (a b : Touch) → Contains touched a → Contains touched b → a.stamp.at < b.stamp.at → a.stamp.who ≡ b.stamp.who → IsKnownTo a b
  -- and to no earlier one of any
  pub onward : (a b : Touch) → Contains touched a → Contains touched b → a.stamp.at < b.stamp.at → ¬ IsKnownTo b a
  pub transitive : (a b c : Touch) → Contains touched a → Contains touched b → Contains touched c → IsKnownTo a b → IsKnownTo b c → IsKnownTo a c

-- a is the access with index i
abbrev pub IsAt : List Touch → ℕ → Touch → Type 0
IsAt touched i a = Contains touched a × (a.stamp.at ≡ i)

-- two different accesses, at least one of them a Write
abbrev pub Conflicting : List Touch → ℕ → ℕ → Type 0
Conflicting touched i j = (i ≢ j) × ((a : Touch) × (b : Touch) × IsAt touched i a × IsAt touched j b × (IsTrue a.stamp.write ⊎ IsTrue b.stamp.write))

-- the access with index i is known to that with index j
abbrev pub Known : List Touch → ℕ → ℕ → Type 0
Known touched i j = (a : Touch) × (b : Touch) × IsAt touched i a × IsAt touched j b × IsKnownTo a b

-- the race that is reported of the touches, where they have one
abbrev pub IsReported : List Touch → Option (ℕ × ℕ) → Type 0
IsReported touched None = (i j : ℕ) → ¬ RaceBy (Conflicting touched) (Known touched) i j
IsReported touched (Some (i, j)) = IsReportedBy (Conflicting touched) (Known touched) i j

-- what is printed of a touch
abbrev pub noted_of : Touch → ReportedAccess
noted_of a = record { at = a.stamp.at; who = a.stamp.who; write = a.stamp.write; place = a.place }

-- it is noted of one of the touches
abbrev pub IsNotedIn : List Touch → ReportedAccess → Type 0
IsNotedIn touched n = (a : Touch) × Contains touched a × (noted_of a ≡ n)

-- so are both, where there are two
abbrev pub AreNotedIn : List Touch → Option (ReportedAccess × ReportedAccess) → Type 0
AreNotedIn touched None = ⊤
AreNotedIn touched (Some (m, n)) = IsNotedIn touched m × IsNotedIn touched n

-- the indexes of two that are noted
abbrev pub pair_noted : ReportedAccess × ReportedAccess → ℕ × ℕ
pair_noted p = (p.0.at, p.1.at)
