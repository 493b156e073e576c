-- The parts of a witness's order.
use Rattle.std.specs.Prelude.{ℕ, if◌then◌else◌, ◌≡◌, ◌==◌, ◌&&◌, not, Bool, List, [], ◌∷◌, ◌++◌, Option, Some, None}
use Rattle.race_records.specs.declared.event.Event.{Event}
use Rattle.race_clock.specs.declared.stamp.Stamp.{Stamp}
use Rattle.race_shards.specs.{declared.order.Part.Part, Pairs.{PairState, is_early}, Witness.{IsEarly, IsOther, AreAll}}

-- of the accesses i and j: a belongs to the part
abbrev pub IsOfPart : Part → (ℕ → ℕ) → List Event → ℕ → ℕ → ℕ → Type 0
IsOfPart Part.Early caps events i j a = IsEarly caps events i j a
IsOfPart Part.Others caps events i j a = IsOther caps events i j a

-- the same of a stamp, by the clocks of the two
abbrev pub belongs : Part → PairState → Stamp → Bool
belongs Part.Early p s = is_early p s
belongs Part.Others p s = not (is_early p s) && (not (s.at == p.first.stamp.at) && not (s.at == p.second.stamp.at))

-- its index, where there is one that belongs to the part
abbrev pub listed_of : Part → PairState → Option Stamp → List ℕ
listed_of part p None = []
listed_of part p (Some s) = if belongs part p s then s.at ∷ [] else []

-- all numbers of which P holds are put behind a list, in rising order
pub record Adds (P : ℕ → Type 0) (old new : List ℕ) : Type 0 where
  pub added : List ℕ
  pub all : AreAll P added
  pub list : new ≡ old ++ added
