-- Which choice is found by its number.
use Rattle.std.specs.Prelude.{ℕ, ◌≡◌, ◌+◌, ◌%◌, List, length, slice_get, Option, Some}
use Rattle.race_requests.specs.declared.{choice.Choice.Choice, search.Found.{Found, TheVariants.{At, Left}}}

-- it is the choice number k of the list, or how far k lies behind the list's end
abbrev pub IsFound : List Choice → ℕ → Found → Type 0
IsFound list k (At c) = slice_get list k ≡ Some c
IsFound list k (Left m) = k ≡ length list + m

-- the choice number pick, modulo their count
abbrev pub picked : ℕ → List Choice → Option Choice
picked pick list = slice_get list (pick % length list)
