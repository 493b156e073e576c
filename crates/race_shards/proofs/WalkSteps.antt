-- A stamper takes the next event of a legal trace.
use Rattle.std.proofs.Common.{◌≡◌, ℕ, ◌+◌, ◌<◌, List, [], ◌∷◌, ◌++◌, Option, Some, None, Result, Ok, Err, OnOk, IfOk}
use Rattle.std.proofs.Common.{take, length, slice_get, get_or, sym, ap, ◌∙◌, subst, arith, IsTrue}
use Rattle.std.proofs.lemmas.{List.length-take-le, Option.{slice_get_within, get_or_from_slice_get, slice_get-get_or}}
use Rattle.race_records.specs.declared.event.{Event.Event, Op.{Op, TheVariants.{Read, Write}}}
use Rattle.race_records.specs.Events.{TraceState, IsTrace, fits}
use Rattle.race_model.{specs.{Events.{At, is_access}, Legal.IsLegal, Clocks.participations}, proofs.Indexes.at_same}
use Rattle.race_model.proofs.{LegalSteps.legal_take, ReorderLemmas.passes_at}
use Rattle.race_legal.proofs.Fronts.{take_next}
use Rattle.race_verdict.specs.Traces.{capacities}
use Rattle.race_clock.specs.{declared.stamp.Stamp.Stamp, ClocksState.clock_of, StamperState.StamperState}
use Rattle.race_clock.specs.{Stamps.{stamp_with, stamp_of}, StandsFor.{IsNext, GoesOn, ForEachPast, CountsReaching}}
use Rattle.race_clock.{specs.StandsFor.CountsAtAccess, proofs.NextFrom.{may_come, room_at, allowed_last, has_clock}}
use Rattle.race_clock.proofs.StampLaws.{Says, says}
use Rattle.race_shards.specs.Walking.{StandsAt, IsStampAt}
use Rattle.race_clock.specs.StandsFor as clock

-- an operation without a stamp is no access
no_access : (at who count : ℕ) (o : Op) → stamp_with at who count o ≡ None → ¬ IsTrue (is_access o)
no_access at who count (Read x v) none is = cc
no_access at who count (Write x v) none is = cc
no_access at who count _ none is = cc

-- what is read at an index stands there
pub reads_at : (xs events : List Event) (at : ℕ) (e : Event) → xs ≡ events → at < length events → e ≡ get_or xs at e → At events at e
reads_at xs events at e same less is = slice_get-get_or events at e less ∙ ap Some (sym (is ∙ ap (λ (es : List Event). get_or es at e) same))

module _ (trace : TraceState) (is_trace : IsTrace trace) (legal : IsLegal (capacities trace) trace.events) (at : ℕ) (e : Event) (here : At trace.events at e)
    (k : StamperState) (stands : StandsAt trace at k) where
  next : take (at + 1) trace.events ≡ take at trace.events ++ e ∷ []
  next = take_next trace.events at e here

  longer : IsLegal (capacities trace) (take at trace.events ++ e ∷ [])
  longer = subst (IsLegal (capacities trace)) next (legal_take (capacities trace) trace.events (at + 1) legal)

  fit : IsTrue (fits trace.decls e)
  fit = subst (λ (e : Event). IsTrue (fits trace.decls e)) (get_or_from_slice_get trace.events at e e here)
      (is_trace.fit at e (slice_get_within trace.events at e here))

  pub may_step : IsNext k e
  may_step = may_come trace.decls k (take at trace.events) e stands fit longer (room_at trace.events at e here is_trace.limited)

  long : length (take at trace.events) ≡ at
  long = length-take-le at trace.events (let less : at < length trace.events = slice_get_within trace.events at e here in omega arith)

  module _ (new : StamperState) (goes : GoesOn k new e) where
    stands_on : StandsAt trace (at + 1) new
    stands_on = subst (clock.StandsFor trace.decls.declarations new) (sym next)
        (goes trace.decls.declarations (take at trace.events) stands (allowed_last (capacities trace) (take at trace.events) e longer))

    module _ (counts : CountsAtAccess k new e) where
      stamp_at : (o : Option Stamp) → ForEachPast k (λ declarations past. o ≡ stamp_of past e) → IsStampAt trace at new o
      stamp_at None is = λ access. go (passes_at is_access trace.events at access)
        where
          other : ¬ IsTrue (is_access e.op)
          other = no_access (length (take at trace.events)) e.who (participations e.who (take at trace.events) + 1) e.op
              (sym (is trace.decls.declarations (take at trace.events) stands))

          go : ((s : Event) × At trace.events at s × IsTrue (is_access s.op)) → ⊥
          go (s, ats, access) = other (subst (λ (e : Event). IsTrue (is_access e.op)) (at_same trace.events at s e ats here) access)
      stamp_at (Some s) is = record {
        stamped = record {
          event = e;
          stands = ap (slice_get trace.events) index ∙ here;
          is = subst (λ n. stamp_of (take n trace.events) e ≡ Some s) (sym index) stamped;
          reaching = subst (λ n. CountsReaching (capacities trace) (take n trace.events) e s.who (clock_of new.clocks s.who)) (sym index)
              (subst (λ g. CountsReaching (capacities trace) (take at trace.events) e g (clock_of new.clocks g)) (sym word.actor)
              (counts word.access trace.decls.declarations (take at trace.events) stands));
        };
        at = index;
        clock = let who : s.who ≡ e.who = word.actor in
            let less : e.who < length new.clocks.slots = has_clock trace.decls new (take (at + 1) trace.events) e stands_on fit in
            omega (arith, who, less);
      }
        where
          stamped : stamp_of (take at trace.events) e ≡ Some s
          stamped = sym (is trace.decls.declarations (take at trace.events) stands)

          word : Says (length (take at trace.events)) e.who (participations e.who (take at trace.events) + 1) e.op s
          word = says (length (take at trace.events)) e.who (participations e.who (take at trace.events) + 1) e.op s stamped

          index : s.at ≡ at
          index = word.index ∙ long

  -- so it is with what a step gives
  pub steps_on : {E : Type 0} (r : Result (Option Stamp) E) (new : StamperState) → OnOk r (GoesOn k new e) → OnOk r (StandsAt trace (at + 1) new)
  steps_on (Ok o) new goes = stands_on new goes
  steps_on (Err f) new goes = tt

  pub stamps_it : {E : Type 0} (r : Result (Option Stamp) E) (new : StamperState) → OnOk r (GoesOn k new e)
      → IfOk r (λ o. ForEachPast k (λ declarations past. o ≡ stamp_of past e)) → OnOk r (CountsAtAccess k new e) → IfOk r (IsStampAt trace at new)
  stamps_it (Ok o) new goes is counts = stamp_at new goes counts o is
  stamps_it (Err f) new goes is counts = tt
