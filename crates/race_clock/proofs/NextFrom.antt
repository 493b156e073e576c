-- An event that fits the declarations, and that keeps a list legal, may come next: so a caller that replays the trace
-- beside the stamper meets its condition.
use Rattle.std.proofs.Common.{◌≡◌, ℕ, ◌<◌, ◌≤◌, List, [], ◌∷◌, ◌++◌, None, take, length, refl, subst, arith, IsTrue}
use Rattle.std.proofs.lemmas.{List.length-take-le, Option.slice_get_within}
use Rattle.race_records.specs.declared.{event.Event.Event, kind.Kind.Kind, trace.TheConstants.MAX_EVENTS}
use Rattle.race_records.specs.{Declarations.{DeclsState, count_of, capacity_of}, Events.fits}
use Rattle.race_model.{specs.{Events.At, Legal.{IsLegal, broken}}, proofs.Indexes.slice_get-push}
use Rattle.race_model.proofs.ClockLemmas.{front_new}
use Rattle.race_legal.proofs.RangeLemmas.{range_from_fits}
use Rattle.race_clock.specs.{StamperState.StamperState, StandsFor.{StandsFor, IsNext}}

-- the last event of a legal list breaks no rule
pub allowed_last : (caps : ℕ → ℕ) (past : List Event) (e : Event) → IsLegal caps (past ++ e ∷ []) → broken caps past e ≡ None
allowed_last caps past e legal = subst (λ front. broken caps front e ≡ None)
    (front_new past e (length past) refl) (legal (length past) e (slice_get-push past e))

pub may_come : (decls : DeclsState) (k : StamperState) (past : List Event) (e : Event) → StandsFor decls.declarations k past → IsTrue (fits decls e)
    → IsLegal (capacity_of decls.declarations) (past ++ e ∷ []) → length past < MAX_EVENTS → IsNext k e
may_come decls k past e S fit legal room = record {
  declarations = decls.declarations;
  past = past;
  stands = S;
  in_range = range_from_fits decls e fit;
  allowed = allowed_last (capacity_of decls.declarations) past e legal;
  room = room;
}

-- and its goroutine has a clock
pub has_clock : (decls : DeclsState) (k : StamperState) (past : List Event) (e : Event) → StandsFor decls.declarations k past → IsTrue (fits decls e)
    → e.who < length k.clocks.slots
has_clock decls k past e S fit =
    let less : e.who < count_of Kind.Goroutine decls.declarations = (range_from_fits decls e fit).0 in
    let all : length k.clocks.slots ≡ count_of Kind.Goroutine decls.declarations = S.all_goroutines in
    omega (arith, less, all)

-- the events before one of a trace leave it room
pub room_at : (events : List Event) (i : ℕ) (e : Event) → At events i e → length events ≤ MAX_EVENTS → length (take i events) < MAX_EVENTS
room_at events i e at limited =
    let less : i < length events = slice_get_within events i e at in
    let long : length (take i events) ≡ i = length-take-le i events (omega arith) in
    omega (arith, less, long, limited)
