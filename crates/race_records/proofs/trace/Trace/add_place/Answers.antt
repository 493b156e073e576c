use Rattle.std.proofs.Common.{inl, inr, sym, subst}
use Rattle.race_records.specs.{Declarations.{DeclsState, IsWellFormed}, Events.IsTrace}
use Rattle.race_records.{specs.TraceHolds.trace_state, proofs.EventLemmas.with_place_is_trace}
use Rattle.race_records.proofs.{PlaceLemmas.with_place_well_formed, AnswerLemmas.either}
use Rattle.race_records.proofs.trace.Trace.add_place.Goals as goal

pub invariant_of-self : goal.invariant_of-self
invariant_of-self g c =
    let trace = trace_state c.self.inside in
    let text = c.args.text.now in
    let holds = c.self.invariant in
    elim (either _ c.add_place.result _ _ c.add_place.ensures.refused c.add_place.ensures.added c.add_place.ensures.err) [
      | inl added ↦ record {
        well_formed = subst IsWellFormed (sym added.1) (with_place_well_formed trace.decls text holds.well_formed added.0);
        is_trace = with_place_is_trace trace text c.add_place.new.self holds.is_trace added.1;
        room = holds.room;
      }
      | inr same ↦ record {
        well_formed = subst IsWellFormed (sym same) holds.well_formed;
        is_trace = subst (λ (d : DeclsState). IsTrace (record { decls = d; events = trace.events; spare = trace.spare })) (sym same) holds.is_trace;
        room = holds.room;
      }
    ]
