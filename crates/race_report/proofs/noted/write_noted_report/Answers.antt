use Rattle.std.proofs.Common.{Err, subst}
use Rattle.race_text.{specs.Output.Writes, proofs.OutputLemmas.{writes_flushed, writes_broken}}
use Rattle.race_report.proofs.NotedLemmas.{report_by}
use Rattle.race_report.proofs.noted.write_noted_report.Goals as goal

pub returns-in-Ok-clause-noted : goal.returns-in-Ok-clause-noted
returns-in-Ok-clause-noted g c =
    writes_flushed c.new-page.result c.new-page.ensures.waiting c.new-page.ensures.sent c.in-Ok.ensures
    c.flush.result c.flush.new.sink c.flush.new.self
    c.flush.ensures.empty c.flush.ensures.ok c.flush.ensures.sent c.flush.ensures.calm c.flush.ensures.failed

pub returns-in-Ok-clause-report : goal.returns-in-Ok-clause-report
returns-in-Ok-clause-report g c = λ trace same noted.
    subst (Writes g.W.Write.contents c.flush.result c.args.sink.now c.flush.new.sink)
    (report_by trace c.args.decls.now c.args.verdict.now same noted) (returns-in-Ok-clause-noted g c)

pub returns-in-Err-clause-noted : goal.returns-in-Err-clause-noted
returns-in-Err-clause-noted g c = writes_broken c.new-page.result c.new-page.ensures.waiting c.new-page.ensures.sent c.in-Err.ensures

pub returns-in-Err-clause-report : goal.returns-in-Err-clause-report
returns-in-Err-clause-report g c = λ trace same noted.
    subst (Writes g.W.Write.contents (Err c.in-Err.fault) c.args.sink.now c.print_noted_report.new.sink)
    (report_by trace c.args.decls.now c.args.verdict.now same noted) (returns-in-Err-clause-noted g c)
