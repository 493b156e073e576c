use Rattle.std.{proofs.Common.{subst}}
use Rattle.race_records.specs.{declared.sink.WriteFault.WriteFault, Declarations.IsWellFormed}
use Rattle.race_records.{proofs.PageLemmas.IfErr-map}
use Rattle.race_text.{specs.Text.text, proofs.{OutputLemmas.{writes_flushed, writes_broken}, PieceLemmas.cut_is_exact}}
use Rattle.race_text.proofs.{ShortLemmas.text_short, WritingLemmas.printed_is}
use Rattle.race_text.proofs.writing.write_trace.Goals as goal

pub returns-in-Ok : goal.returns-in-Ok
returns-in-Ok g c =
    let trace = c.args.trace.now in
    let is = printed_is trace c.decls.result.now c.events.result.now c.decls.ensures.decls c.events.ensures.events in
    let bounded = text_short trace c.events.ensures.is_trace (subst IsWellFormed c.decls.ensures.decls c.decls.ensures.well_formed) in
    let writes = writes_flushed c.new-page.result c.new-page.ensures.waiting c.new-page.ensures.sent (rw is at c.in-Ok.ensures)
    c.flush.result c.flush.new.sink c.flush.new.self c.flush.ensures.empty c.flush.ensures.ok c.flush.ensures.sent c.flush.ensures.calm c.flush.ensures.failed in
    record {
      written = writes;
      exact = IfErr-map c.flush.result _ _ (λ (fault : WriteFault) cut. cut_is_exact _ _ fault.sent (text trace) bounded cut) writes.sent;
    }

pub returns-in-Err : goal.returns-in-Err
returns-in-Err g c =
    let trace = c.args.trace.now in
    let is = printed_is trace c.decls.result.now c.events.result.now c.decls.ensures.decls c.events.ensures.events in
    let bounded = text_short trace c.events.ensures.is_trace (subst IsWellFormed c.decls.ensures.decls c.decls.ensures.well_formed) in
    let writes = writes_broken c.new-page.result c.new-page.ensures.waiting c.new-page.ensures.sent (rw is at c.in-Err.ensures) in
    record { written = writes; exact = cut_is_exact _ _ c.in-Err.fault.sent (text trace) bounded writes.sent }
