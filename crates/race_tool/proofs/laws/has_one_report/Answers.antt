use Rattle.race_tool.proofs.OneReport.{one_report}
use Rattle.race_tool.proofs.laws.has_one_report.Goals as goal

pub returns : goal.returns
returns c f g = one_report c.args._bytes.now c.args._plain c.args._plain f g (λ usage plain. plain) (λ plain. plain)
