-- Which asks are a body's: its exit is the last and only the last, and it ends the functions of onces in the order of their nesting.
-- (Our own; compare package sync, "Once")
use Rattle.std.specs.Prelude.{ℕ, ◌+◌, ◌-◌, ◌==◌, ◌&&◌, Bool, true, false, if◌then◌else◌, List, [], ◌∷◌, length}
use Rattle.std.specs.{Prelude.{slice_get, nat_lt, Option, Some, None}, Option.{option_and_then, option_map_or}}
use Rattle.race_requests.specs.declared.request.Ask.{Ask}

-- the ask is an exit
abbrev pub is_exit : Ask → Bool
is_exit Ask.Exit = true
is_exit _ = false

-- the ask begins the function of a once
abbrev pub is_do : Ask → Bool
is_do (Ask.Do o) = true
is_do _ = false

-- the ask ends the function of a once
abbrev pub is_end : Ask → Bool
is_end (Ask.EndDo o) = true
is_end _ = false

-- the onces whose functions are open behind the ask, the innermost first. None where it can't stand before others: an exit, or
-- an end of another function than the innermost
abbrev pub after_ask : List ℕ → Ask → Option (List ℕ)
after_ask onces Ask.Exit = None
after_ask onces (Ask.Do o) = Some (o ∷ onces)
after_ask [] (Ask.EndDo o) = None
after_ask (p ∷ onces) (Ask.EndDo o) = if p == o then Some onces else None
after_ask onces _ = Some onces

-- behind all of them
abbrev pub onces_after : List ℕ → List Ask → Option (List ℕ)
onces_after onces [] = Some onces
onces_after onces (ask ∷ asks) = option_and_then (λ inside. onces_after inside asks) (after_ask onces ask)

-- the asks go on to the end of a body in which these functions are open
abbrev pub ends : List ℕ → List Ask → Bool
ends onces [] = false
ends onces (ask ∷ asks) =
    if is_exit ask then (length onces == 0) && (length asks == 0)
    else option_map_or (λ inside. ends inside asks) (after_ask onces ask) false

-- the asks are those of a body
abbrev pub is_body : List Ask → Bool
is_body asks = ends [] asks

-- the ask at the position follows directly on one that begins the function of a once
abbrev pub is_behind_do : List Ask → ℕ → Bool
is_behind_do asks position = nat_lt 0 position && option_map_or is_do (slice_get asks (position - 1)) false

-- how many asks there are up to the end of the function in which the first stands and of so many more within it, that end counted
abbrev pub steps_to_end : ℕ → List Ask → ℕ
steps_to_end depth [] = 0
steps_to_end depth (Ask.Do o ∷ asks) = 1 + steps_to_end (depth + 1) asks
steps_to_end depth (Ask.EndDo o ∷ asks) = if depth == 0 then 1 else 1 + steps_to_end (depth - 1) asks
steps_to_end depth (_ ∷ asks) = 1 + steps_to_end depth asks
