-- What the fields of a `Trace` stand for, and what holds of them.
use Rattle.std.specs.Prelude.{◌+◌, ◌≤◌, vec_len, vec_capacity}
use Rattle.race_records.specs.{declared.trace.Trace.TheInside.Inside, Declarations.IsWellFormed}
use Rattle.race_records.specs.Events.{TraceState, IsTrace}

module _ {A : Type 0} where
  abbrev pub trace_state : Inside A → TraceState
  trace_state trace = record { decls = trace.decls; events = trace.events.items; spare = trace.spare }

  pub record TraceHolds (trace : Inside A) : Type 0 where
    pub well_formed : IsWellFormed trace.decls
    pub is_trace : IsTrace (trace_state trace)
    pub room : vec_len trace.events + trace.spare ≤ vec_capacity trace.events
