-- When a hub can be made. (Our own)
use Rattle.std.specs.Prelude.{ℕ, ◌==◌, ◌||◌, not, nat_lt, ◌≡◌, if◌then◌else◌, List, ◌∷◌, Option, Some, None}
use Rattle.race_records.specs.declared.{kind.Kind.Kind, trace.TheConstants.MAX_EVENTS}
use Rattle.race_records.specs.Declarations.{DeclsState, count_of}
use Rattle.race_hub.specs.{declared.opening.HubFault.HubFault, Hub.{HubState, opening}}

-- why no hub of so many routines is made: the first cause, in the order in which they are tested
unfoldable pub hub_fault : DeclsState → ℕ → ℕ → Option HubFault
hub_fault decls limit routines =
    if not (routines == count_of Kind.Goroutine decls.declarations) then Some HubFault.WrongCount
    else (if (limit == 0) || nat_lt MAX_EVENTS limit then Some HubFault.BadLimit else None)

-- the hub opens with the first routine as main's, and with one for each other goroutine
pub record IsOpening {R : Type 0} (decls : DeclsState) (limit : ℕ) (routines : List R) (hub : HubState R) : Type 0 where
  pub main : R
  pub others : List R
  pub all : routines ≡ main ∷ others
  pub hub_is : hub ≡ opening decls limit main others
