-- Which numbers an event of a trace may name: those of its declarations.
use Rattle.std.proofs.Common.{◌≡◌, ℕ, ◌<◌, ◌==◌, true, Option, Some, None, slice_get, IfSome, sym, ◌∙◌, subst, refl}
use Rattle.std.proofs.{Common.{arith, IsTrue, eqb-true}, lemmas.Bool.Decides.nat_tests}
use Rattle.std.proofs.{lemmas.Option.{slice_get_within, get_or_from_slice_get}, Math.Bool.or-false}
use Rattle.race_records.specs.declared.event.{Event.Event, Op.{Op, TheVariants.{Go, Read, Write, Meet}}}
use Rattle.race_records.specs.{declared.kind.Kind.Kind, Declarations.{count_of, counts_of}}
use Rattle.race_records.specs.{Events.{TraceState, IsTrace, fits}, Operands.op_is_in_range}
use Rattle.race_legal.{specs.ReplayState.IsInRange, proofs.RangeLemmas.range_from_fits}
use Rattle.race_model.specs.{Events.{partner, gives, accesses}, Race.{IsAccessOf, IsRace}}
use Rattle.race_verdict.specs.Accesses.{accessed}

-- each event of a trace is in range of its declarations
pub range_in_trace : (trace : TraceState) (i : ℕ) (e : Event) → IsTrace trace → slice_get trace.events i ≡ Some e
    → IsInRange (counts_of trace.decls.declarations) e
range_in_trace trace i e holds at =
    range_from_fits trace.decls e (subst (λ (e : Event). IsTrue (fits trace.decls e))
    (get_or_from_slice_get trace.events i e e at) (holds.fit i e (slice_get_within trace.events i e at)))

-- a second participant is in range
pub partner_in_range : (counts : Kind → ℕ) (o : Op) → IsTrue (op_is_in_range counts o) → IfSome (partner o) (λ g. g < counts Kind.Goroutine)
partner_in_range counts (Go h) is = grind (arith, nat_tests)
partner_in_range counts (Meet r c v) is = grind (arith, nat_tests)
partner_in_range counts _ is = tt

-- so is a variable that is accessed
pub accessed_in_range : (counts : Kind → ℕ) (o : Op) → IsTrue (op_is_in_range counts o) → IfSome (accessed o) (λ x. x < counts Kind.Var)
accessed_in_range counts (Read x v) is = grind (arith, nat_tests)
accessed_in_range counts (Write x v) is = grind (arith, nat_tests)
accessed_in_range counts _ is = tt

-- an operation is an access of the variable that it accesses, and of no other
pub accesses_is : (o : Op) (x : ℕ) → accesses x o ≡ gives (accessed o) x
accesses_is (Read y v) x = or-false (y == x)
accesses_is _ x = refl

-- where the variable that an operation accesses is below n, so is each of which it is an access
pub accessed_below : (o : Op) (n x : ℕ) → IfSome (accessed o) (λ y. y < n) → IsTrue (accesses x o) → x < n
accessed_below o n x below is = by (accessed o) (sym (accesses_is o x) ∙ is) below
  where
    by : (a : Option ℕ) → gives a x ≡ true → IfSome a (λ y. y < n) → x < n
    by None is below = cc
    by (Some y) is below = subst (λ x. x < n) (eqb-true y x is) below

-- a race is on a declared variable
pub race_declared : (caps : ℕ → ℕ) (trace : TraceState) (x i j : ℕ) → IsTrace trace → IsRace caps trace.events x i j
    → x < count_of Kind.Var trace.decls.declarations
race_declared caps trace x i j holds race = go race.conflict.1
  where
    go : IsAccessOf trace.events x i → x < count_of Kind.Var trace.decls.declarations
    go (e, at, is) = accessed_below e.op _ x (accessed_in_range (counts_of trace.decls.declarations) e.op (range_in_trace trace i e holds at).1) is
