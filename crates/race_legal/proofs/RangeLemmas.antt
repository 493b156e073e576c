-- Which events a replay may be asked about: those that fit the declarations, while the list isn't full.
use Rattle.std.proofs.Common.{◌≡◌, ℕ, ◌<◌, ◌&&◌, Bool, true, List, nat_lt, length, sym, subst, refl, arith, IsTrue}
use Rattle.std.proofs.lemmas.Bool.Decides.{nat_tests}
use Rattle.race_records.specs.declared.{event.Event.Event, kind.Kind.Kind, trace.TheConstants.MAX_EVENTS}
use Rattle.race_records.specs.{Declarations.{Declaration, DeclsState, count_of, counts_of}, Events.op_fits}
use Rattle.race_records.specs.{Events.{second_place_fits, is_right_kind, fits}, Operands.{says, has_two_places}}
use Rattle.race_legal.specs.{ReplayState.{ReplayState, IsInRange, counts_in}, StandsFor.StandsFor}

-- an event that fits is in range of the declarations
pub range_from_fits : (decls : DeclsState) (e : Event) → IsTrue (fits decls e) → IsInRange (counts_of decls.declarations) e
unfolding fits
range_from_fits decls e fit = by (nat_lt e.who (count_of Kind.Goroutine decls.declarations)) refl (op_fits decls.declarations e.op) refl
    (nat_lt e.place (length decls.places)) (second_place_fits (length decls.places) (has_two_places (says e.op).0) e.place2)
    (is_right_kind decls e.op) fit
  where
    by : (b : Bool) → nat_lt e.who (count_of Kind.Goroutine decls.declarations) ≡ b → (c : Bool) → op_fits decls.declarations e.op ≡ c → (p q r : Bool)
        → IsTrue (b && c && p && q && r) → IsInRange (counts_of decls.declarations) e
    by true who true op p q r h = (grind (arith, nat_tests), op)
    by _ who _ op p q r h = cc

-- so it is in range of a replay that stands for a list under the declarations
pub in_range : (decls : DeclsState) (k : ReplayState) (past : List Event) (e : Event) → StandsFor decls.declarations k past → IsTrue (fits decls e)
    → IsInRange (counts_in k) e
in_range decls k past e S fit = subst (λ (counts : Kind → ℕ). IsInRange counts e) (sym S.counts) (range_from_fits decls e fit)

-- and a list that isn't full leaves the replay room
pub has_room : (declarations : List Declaration) (k : ReplayState) (past : List Event) → StandsFor declarations k past → length past < MAX_EVENTS
    → k.len < MAX_EVENTS
has_room declarations k past S less = let len = S.len in omega (arith, less, len)
