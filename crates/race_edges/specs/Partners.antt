-- The race that is noted for a variable: an event, and the greatest earlier access that it races with.
use Rattle.std.specs.Prelude.{ℕ, zero, suc, ◌<◌, ◌||◌, ◌&&◌, not, if◌then◌else◌, Bool, false, List, length, Option}
use Rattle.std.specs.{Prelude.{Some, None, IfSome, is_some, slice_get, slice_set}, List.slice_index_or}
use Rattle.std.specs.Option.{option_map}
use Rattle.race_records.specs.declared.event.{Event.Event, Op.Op}
use Rattle.race_model.specs.Events.{writes, accesses}
use Rattle.race_verdict.specs.{Accesses.accessed, declared.races.Race.Race}
use Rattle.race_edges.specs.TableState.{sees}

-- it has a place in the list
abbrev pub HasPlace : List (Option Race) → Op → Type 0
HasPlace found o = IfSome (accessed o) (λ x. x < length found)

-- event i accesses x, and it or the operation o is a Write of x; and g, who does o, hasn't seen it
abbrev pub is_partner : List (List Bool) → List Event → ℕ → ℕ → Op → ℕ → Bool
is_partner rows events x g o i =
    elim (slice_get events i) [
      | Some a ↦ accesses x a.op && ((writes x a.op || writes x o) && not (sees rows g i))
      | None ↦ false
    ]

-- the greatest number below n that passes
abbrev pub greatest_below : (ℕ → Bool) → ℕ → Option ℕ
greatest_below passes zero = None
greatest_below passes (suc n) = if passes n then Some n else greatest_below passes n

-- event n races on x, which it accesses, with the greatest earlier access that races with it, if there is one
abbrev pub race_at : List (List Bool) → List Event → ℕ → Event → ℕ → Option Race
race_at rows events n e x =
    option_map (λ i. record { var = x; first = i; second = n }) (greatest_below (is_partner rows events x e.who e.op) n)

-- a race of event n on x is noted, unless x has one
abbrev pub noted : List (List Bool) → List Event → ℕ → Event → ℕ → List (Option Race) → List (Option Race)
noted rows events n e x found =
    if is_some (slice_index_or found x None) then found else slice_set found x (race_at rows events n e x)

-- what is noted behind event n: an access may complete a race
abbrev pub found_after : List (List Bool) → List Event → ℕ → Event → List (Option Race) → List (Option Race)
found_after rows events n e found = elim (accessed e.op) [ Some x ↦ noted rows events n e x found | None ↦ found ]
