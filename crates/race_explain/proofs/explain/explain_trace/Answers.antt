use Rattle.std.proofs.Common.{ap, ◌++◌, ◌∙◌}
use Rattle.race_verdict.specs.Verdicts.{verdict_of}
use Rattle.race_report.{specs.Report.report, proofs.PrintableLemmas.races_are_of}
use Rattle.race_explain.proofs.ExplainedLemmas.{explained_by}
use Rattle.race_explain.proofs.explain.explain_trace.Goals as goal

pub put_report-requires : goal.put_report-requires
put_report-requires g c = races_are_of c.args.trace.now c.args.verdict.now c.len-events.ensures.is_trace c.requires

pub returns : goal.returns
returns g c =
    let put = c.in_ok-put_report.ensures ∙ ap (λ t. t ++ report c.args.trace.now (verdict_of c.args.verdict.now)) c.new-out.ensures.items in
    explained_by c.args.trace.now c.args.verdict.now c.put_report.new.out.items c.put_said.new.out.items put c.in_ok-put_said.ensures
