use Rattle.std.proofs.Common.{ap, ◌++◌, ◌∙◌}
use Rattle.race_report.specs.Report.{fault_line}
use Rattle.race_explain.proofs.shown.put_fault.Goals as goal

pub returns : goal.returns
returns g c =
    let appended = rw c.in-Ok.is at c.write_text_fault.ensures.ok in
    ap (λ v. v.items) c.into_writer.ensures ∙ appended ∙ ap (λ t. t ++ fault_line c.args.fault.now) c.lent-sink.ensures
