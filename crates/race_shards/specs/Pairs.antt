-- Two accesses, each with the clock that it had.
use Rattle.std.specs.Prelude.{ℕ, ◌≡◌, ◌==◌, ◌&&◌, ◌||◌, not, nat_lt, nat_le, Bool, List, Option, Some, None}
use Rattle.race_records.specs.declared.event.Event.{Event}
use Rattle.race_model.specs.Reorder.{IsAccess}
use Rattle.race_verdict.specs.declared.races.Race.{Race}
use Rattle.race_clock.specs.{declared.stamp.Stamp.Stamp, ClockState.knows, Laws.IsStampIn}
use Rattle.race_shards.specs.Witness.{RacesInOrder}

-- a stamp and its clock
pub record SeenState : Type 0 where
  pub stamp : Stamp
  pub clock : List ℕ

pub record PairState : Type 0 where
  pub first : SeenState
  pub second : SeenState

-- the clock knows the stamp's goroutine up to the stamp
abbrev pub is_known : Stamp → List ℕ → Bool
is_known stamp clock = nat_le stamp.count (knows clock stamp.who)

-- the access is known to either
abbrev pub is_early : PairState → Stamp → Bool
is_early p s = is_known s p.first.clock || is_known s p.second.clock

-- they race on x, the first before the second
abbrev pub races_on : ℕ → PairState → Bool
races_on x p =
    nat_lt p.first.stamp.at p.second.stamp.at && (p.first.stamp.var == x && (p.second.stamp.var == x
    && ((p.first.stamp.write || p.second.stamp.write) && not (is_known p.first.stamp p.second.clock))))

-- the event at index i is an access with this stamp and this clock
pub record IsTouchAt (caps : ℕ → ℕ) (events : List Event) (i : ℕ) (t : SeenState) : Type 0 where
  pub stamped : IsStampIn caps events t.stamp t.clock
  pub at : t.stamp.at ≡ i

-- or it is none
abbrev pub IsSeenAt : (ℕ → ℕ) → List Event → ℕ → Option SeenState → Type 0
IsSeenAt caps events i None = ¬ IsAccess events i
IsSeenAt caps events i (Some t) = IsTouchAt caps events i t

-- each of the two is an access with its stamp and its clock
pub record IsPairIn (caps : ℕ → ℕ) (events : List Event) (p : PairState) : Type 0 where
  pub first : IsStampIn caps events p.first.stamp p.first.clock
  pub second : IsStampIn caps events p.second.stamp p.second.clock

-- they are the two of the race
pub record IsPairOf (caps : ℕ → ℕ) (events : List Event) (race : Race) (p : PairState) : Type 0 where
  pub pair : IsPairIn caps events p
  pub first : p.first.stamp.at ≡ race.first
  pub second : p.second.stamp.at ≡ race.second
  pub races : RacesInOrder caps events race

-- or it is no race in order
abbrev pub IsFound : (ℕ → ℕ) → List Event → Race → Option PairState → Type 0
IsFound caps events race None = ¬ RacesInOrder caps events race
IsFound caps events race (Some p) = IsPairOf caps events race p
