use Rattle.std.proofs.Common.{◌≡◌, ◌-◌, None, sym, subst, arith}
use Rattle.race_records.specs.{Events.{TraceState, push_fault}, TraceHolds.trace_state}
use Rattle.race_records.proofs.EventLemmas.{push_is_trace}
use Rattle.race_records.proofs.trace.Trace.append.Goals as goal

pub invariant_of-self : goal.invariant_of-self
invariant_of-self g c =
    let holds = c.self.invariant in
    let room = holds.room in
    record {
      well_formed = holds.well_formed;
      is_trace = push_is_trace (trace_state c.self.inside) c.args.event c.push_reserved.new.self.items (c.self.inside.spare - 1) holds.is_trace c.requires.value
          (subst (λ (t : TraceState). push_fault t c.args.event ≡ None) (sym c.self.view_is) c.requires.allowed) c.push_reserved.ensures.items;
      room = omega (arith, room);
    }

pub invariant_of-self-2 : goal.invariant_of-self-2
invariant_of-self-2 g c =
    let holds = c.self.invariant in
    record {
      well_formed = holds.well_formed;
      is_trace = push_is_trace (trace_state c.self.inside) c.args.event c.push.new.self.items c.self.inside.spare holds.is_trace c.requires.value
          (subst (λ (t : TraceState). push_fault t c.args.event ≡ None) (sym c.self.view_is) c.requires.allowed) c.in_ok-push.ensures.items;
      room = omega (arith, c.push.new.self.ok.0);
    }
