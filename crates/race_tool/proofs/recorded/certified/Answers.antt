use Rattle.std.proofs.Common.{◌≡◌, List, refl, sym, subst, true≢false}
use Rattle.race_records.specs.{declared.event.Event.Event, Declarations.{DeclsState, IsWellFormed}}
use Rattle.race_records.specs.Events.{TraceState, IsTrace}
use Rattle.race_text.specs.Text.{HasText}
use Rattle.race_tool.proofs.recorded.certified.Goals as goal

-- a trace of these declarations and events has a text, whatever its spare room is
has_text_by : (t : TraceState) (decls : DeclsState) (events : List Event)
    → t.decls ≡ decls → t.events ≡ events → IsWellFormed t.decls → IsTrace t → HasText (record { decls = decls; events = events; spare = 0 })
has_text_by t decls events same_decls same_events well_formed is =
    subst (λ (p : DeclsState × List Event). HasText (record { decls = p.0; events = p.1; spare = 0 })) (λ k. (same_decls k, same_events k))
    (record { well_formed = well_formed; is_trace = record { fit = is.fit; values = is.values; limited = is.limited } })

pub returns-in-Ok-clause-run : goal.returns-in-Ok-clause-run
returns-in-Ok-clause-run g c = c.in-Ok.ensures.run.0 refl

pub returns-in-Ok-clause-text : goal.returns-in-Ok-clause-text
returns-in-Ok-clause-text g c =
    has_text_by c.trace-trace.result.now c.args.recording.decls c.args.recording.events c.trace-trace.ensures.decls c.trace-trace.ensures.events
    (subst IsWellFormed c.decls-decls.ensures.decls c.decls-decls.ensures.well_formed) c.events-events.ensures.is_trace

pub returns-in-Err-clause-none : goal.returns-in-Err-clause-none
returns-in-Err-clause-none g c = λ is. true≢false (sym (c.in-Err.ensures.run.1 is))
